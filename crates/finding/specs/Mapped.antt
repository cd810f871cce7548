-- The map between a layout's indices and its plan's: what it is of a layout, and what the two ways through it tell. Assumes nothing.
use Rattle.std.specs.Prelude.{◌≡◌, List, [], ◌∷◌, ℕ, ◌^◌, ◌≤◌, ◌<◌, ℤ, length, get_or, take, replicate, Result}
use Rattle.std.proofs.Props.{props}
use Rattle.strided.specs.Base.{padded}
use Rattle.strided.specs.Layout.{no_axis, NoZero, Within, total, axes_of, extents}
use Rattle.strided.specs.Refusals.{refused_by, row11, served_unless}
use Rattle.strided.specs.Order.{pick, place, fusing_order}
use Rattle.strided.specs.Fuse.{fuse, plan_axes}
use Rattle.strided.specs.Index.{ravel, unravel, original_index, index_in_plan, told}
use Rattle.strided.specs.declared.Purpose.{Purpose}
use Rattle.strided.specs.declared.Told.{Told}
use Rattle.laws.specs.Fuse.Radix.{kept}
use Rattle.finding.specs.declared.Map.{Map}
use Rattle.finding.specs.Memory.{Leaves}
use Rattle.strided.specs.declared.Refusal.{Refusal}

-- ---- a layout's map

-- the extents after fusing, in the order that the axes are fused in
abbrev pub fused_extents : List ℕ → ℕ → List ℤ → Purpose → List ℕ
fused_extents es m ss u = extents (fuse (pick no_axis (axes_of es m ss) (fusing_order es m ss u)))

-- the order and those extents, in arrays
pub record Fused (es : List ℕ) (m : ℕ) (ss : List ℤ) (u : Purpose) (order fused : List ℕ) : Type 0 where
  pub order_is : order ≡ padded 64 0 (fusing_order es m ss u)
  pub fused_is : fused ≡ padded 64 0 (fused_extents es m ss u)

-- MAPPED: the value is the map of the layout
pub record Mapped (es : List ℕ) (m : ℕ) (ss : List ℤ) (u : Purpose) (map : Map) : Type 0 where
  pub rank_is : map.rank ≡ length (plan_axes es m ss u)
  pub arrays : Fused es m ss u map.order map.fused

-- ---- the two ways, on arrays

-- the extents of a plan's axes: the fused ones other than 1; if there is none, and there is an axis, a 1 stays
abbrev pub or_one : List ℕ → List ℕ → List ℕ
or_one [] [] = []
or_one [] (f ∷ fs) = 1 ∷ []
or_one (k ∷ ks) fs = k ∷ ks

abbrev pub kept_extents : List ℕ → List ℕ
kept_extents fs = or_one (kept fs) fs

-- and the axis that stays has index 0
abbrev pub or_nought : List ℕ → List ℕ → List ℕ → List ℕ
or_nought [] [] cs = []
or_nought [] (f ∷ fs) cs = 0 ∷ []
or_nought (k ∷ ks) fs cs = cs

module _ (es order fused : List ℕ) where
  abbrev o : List ℕ
  o = take (length es) order

  abbrev F : List ℕ
  F = take (length es) fused

  abbrev pub unraveled : List ℕ → List ℕ
  unraveled cs = place (replicate (length es) 0) o (unravel (pick 0 es o) F cs 0)

  abbrev pub raveled : List ℕ → List ℕ
  raveled is = or_nought (kept F) F (ravel (pick 0 es o) F (pick 0 is o)).counters

  -- row 11 is judged on the plan's extents one way, on the layout's own the other
  abbrev pub unraveled_by : List ℕ → Result Told Refusal
  unraveled_by cs = served_unless (refused_by (row11 (kept_extents F) cs ∷ [])) (told (unraveled cs))

  abbrev pub raveled_by : List ℕ → Result Told Refusal
  raveled_by is = served_unless (refused_by (row11 es is ∷ [])) (told (raveled is))

  -- what the arrays must be for that
  pub record Sound : Type 0 where
    pub few-axes : length es ≤ 64
    pub order_long : length order ≡ 64
    pub fused_long : length fused ≡ 64
    pub inside : (j : ℕ) → j < length es → get_or order j 0 < length es
    pub cells : total (pick 0 es (take (length es) order)) < 2 ^ 64
    pub positive : (cs : List ℕ) → Within (kept_extents (take (length es) fused)) cs → NoZero es

-- a fact, and no value
no_zero_prop : (es : List ℕ) → IsProp (NoZero es)
no_zero_prop [] = hlevel props
no_zero_prop (e ∷ es) = hlevel (props, no_zero_prop es)

pub sound_prop : (es order fused : List ℕ) → IsProp (Sound es order fused)
sound_prop es order fused = hlevel (props, no_zero_prop es)

-- ---- through a map

pub record Usable (es : List ℕ) (map : Map) : Type 0 where
  pub arrays : Sound es map.order map.fused
  pub rank_is : map.rank ≡ length (kept_extents (take (length es) map.fused))

-- what index finding tells of a layout that is not refused
abbrev pub found_original : List ℕ → ℕ → List ℤ → Purpose → List ℕ → Result Told Refusal
found_original es m ss u cs = served_unless (refused_by (row11 (extents (plan_axes es m ss u)) cs ∷ [])) (told (original_index es m ss u cs))

-- the index that is told is index finding's, of whatever layout it is the map
abbrev pub TellsOriginal : List ℕ → Map → List ℕ → List ℕ → List ℕ → List ℕ → List ℕ → Result (Unit {0}) Refusal → Type 0
TellsOriginal es map cs c x c' x' r =
    (m : ℕ) (ss : List ℤ) (u : Purpose) → Mapped es m ss u map → Leaves (found_original es m ss u cs) c x c' x' r

abbrev pub TellsPlan : List ℕ → Map → List ℕ → List ℕ → List ℕ → List ℕ → List ℕ → Result (Unit {0}) Refusal → Type 0
TellsPlan es map is c x c' x' r =
    (m : ℕ) (ss : List ℤ) (u : Purpose) → Mapped es m ss u map
    → Leaves (served_unless (refused_by (row11 es is ∷ [])) (told (index_in_plan es m ss u is))) c x c' x' r
