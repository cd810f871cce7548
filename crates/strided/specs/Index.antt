-- "A plan index follows from an original index", and "From layout, purpose and counters the original index is told, and the reverse":
-- the two maps, and what index finding answers. `ravel` and `unravel` are NumPy's words for the two.
-- Assumes nothing.
use Rattle.std.specs.Prelude.{Bool, cond, List, [], ◌∷◌, ℕ, ◌+◌, ◌*◌, ◌/◌, ◌%◌, eqb, length, replicate, ℤ, Result}
use Rattle.strided.specs.Base.{padded, first}
use Rattle.strided.specs.Layout.{Axis, no_axis, axes_of, extents}
use Rattle.strided.specs.Refusals.{refused_by, layout_refused, row11, served_unless}
use Rattle.strided.specs.Order.{pick, place, fusing_order}
use Rattle.strided.specs.Fuse.{fuse, keep, plan_axes}
use Rattle.strided.specs.declared.Purpose.{Purpose}
use Rattle.strided.specs.declared.Refusal.{Refusal}
use Rattle.strided.specs.declared.Told.{Told}

-- ---- to the plan index

-- what the axes behind leave for the axis that they joined, and the plan index so far
pub record Raveled : Type 0 where
  pub left : ℕ
  pub counters : List ℕ

abbrev pub ravel_step : Bool → ℕ → List ℕ → Raveled
ravel_step b z cs = cond b (record { left = z; counters = cs }) (record { left = 0; counters = z ∷ cs })

-- "on a fused axis it is the joined axes' indices in mixed radix, quickest the one that came first in the order they were fused in;
-- dropped axes have index 0": es the extents in that order, fs the fused extents, is the index. An axis whose fused extent is 1 has
-- joined the one before it, or is dropped
abbrev pub ravel : List ℕ → List ℕ → List ℕ → Raveled
ravel [] fs is = record { left = 0; counters = [] }
ravel (e ∷ es) [] is = record { left = 0; counters = [] }
ravel (e ∷ es) (f ∷ fs) [] = record { left = 0; counters = [] }
ravel (e ∷ es) (f ∷ fs) (i ∷ is) =
    let w : Raveled = ravel es fs is in
    ravel_step (eqb f 1) (w.left * e + i) w.counters

-- the one axis that stays when none is left has index 0
abbrev pub pad : List Axis → List Axis → List ℕ → List ℕ
pad [] [] cs = []
pad [] (a ∷ xs) cs = 0 ∷ []
pad (k ∷ ks) xs cs = cs

abbrev pub plan_index : List Axis → List ℕ → List ℕ
plan_index xs is = pad (keep (fuse xs)) (fuse xs) (ravel (extents xs) (extents (fuse xs)) is).counters

-- ---- and back

abbrev pub hd : List ℕ → ℕ
hd [] = 0
hd (x ∷ xs) = x

abbrev pub tl : List ℕ → List ℕ
tl [] = []
tl (x ∷ xs) = xs

-- the index told: cs the counters, x what is left of the last. An axis whose fused extent is not 1 takes the next counter, any other goes
-- on with what is left
abbrev pub unravel : List ℕ → List ℕ → List ℕ → ℕ → List ℕ
unravel [] fs cs x = []
unravel (e ∷ es) [] cs x = []
unravel (e ∷ es) (f ∷ fs) cs x =
    let c : ℕ = cond (eqb f 1) x (hd cs) in
    c % e ∷ unravel es fs (cond (eqb f 1) cs (tl cs)) (c / e)

abbrev pub unravel_index : List Axis → List ℕ → List ℕ
unravel_index xs cs = unravel (extents xs) (extents (fuse xs)) cs 0

-- ---- with the axes put into the order they are fused in

abbrev pub unravel_by : List ℕ → List Axis → List ℕ → List ℕ
unravel_by o xs cs = place (replicate (length xs) 0) o (unravel_index (pick no_axis xs o) cs)

abbrev pub index_by : List ℕ → List Axis → List ℕ → List ℕ
index_by o xs is = plan_index (pick no_axis xs o) (pick 0 is o)

-- the original index of a plan index, and the plan index of an original index
unfoldable pub original_index : List ℕ → ℕ → List ℤ → Purpose → List ℕ → List ℕ
original_index es operands ss u cs = unravel_by (fusing_order es operands ss u) (axes_of es operands ss) cs

unfoldable pub index_in_plan : List ℕ → ℕ → List ℤ → Purpose → List ℕ → List ℕ
index_in_plan es operands ss u is = index_by (fusing_order es operands ss u) (axes_of es operands ss) is

-- ---- the entries

-- an index with its count
abbrev pub told : List ℕ → Told
told x = record { count = length x; index = padded 64 0 x }

-- INDEX FINDING: planning's rows, then 11 on the plan's extents
unfoldable pub told_original : List ℕ → List ℕ → List ℤ → Purpose → List ℕ → Result Told Refusal
told_original es sizes ss u counters =
    served_unless (first (layout_refused es sizes ss u) (refused_by (row11 (extents (plan_axes es (length sizes) ss u)) counters ∷ [])))
    (told (original_index es (length sizes) ss u counters))

-- and the reverse: 11 on the layout's extents
unfoldable pub told_plan : List ℕ → List ℕ → List ℤ → Purpose → List ℕ → Result Told Refusal
told_plan es sizes ss u index =
    served_unless (first (layout_refused es sizes ss u) (refused_by (row11 es index ∷ []))) (told (index_in_plan es (length sizes) ss u index))
