-- BLOCKS AS THEIR USER HAS THEM: each operand's offset, and how many cells. Those of a plan from the starts zs, in document 01's order, are
-- those that the steps of a walk from these starts hand out.
-- Assumes nothing.
use Rattle.std.specs.Prelude.{◌≡◌, refl, true, List, [], ◌++◌, map, ℕ, ◌+◌, ◌≤◌, ℤ, pos, length, take, drop, Option, None, Some}
use Rattle.std.proofs.Common.{sym, ap, ◌∙◌, arith, drop_of_length-le, take-append-drop, drop-drop}
use Rattle.std.proofs.lemmas.Bool.{false≢true}
use Rattle.std.proofs.lemmas.Simd.{map-map}
use Rattle.std.proofs.lemmas.List.{length-map}
use Rattle.strided.specs.Walk.{length_at, counters}
use Rattle.strided.specs.Begin.{plan_rows, started}
use Rattle.strided.specs.Step.{offsets_from, plan_cut_axes, packed, walk_after}
use Rattle.strided.specs.Bulk.{next_blocks}
use Rattle.strided.specs.declared.Plan.{Plan}
use Rattle.strided.specs.declared.Walk.{Walk}
use Rattle.strided.specs.declared.Block.{Block}
use Rattle.laws.specs.Base.Arrays.{take_counted}
use Rattle.laws.specs.Base.Lists.{nth_none, map-take, map-drop}
use Rattle.laws.specs.Walk.States.{state_after}
use Rattle.laws.specs.Walk.Reach.{state-nth}
use Rattle.laws.specs.Walk.Machine.{length_offsets}
use Rattle.laws.specs.Walk.Steps.{Ready, wide, rows-many, as_many, at, made, walk-state}
use Rattle.laws.specs.Walk.Bulk.{blocks_from}

pub record Placed : Type 0 where
  pub offsets : List ℤ
  pub length : ℕ

-- what a step hands out
abbrev pub placed_of : ℕ → Block → Placed
placed_of operands b = record { offsets = take operands b.offsets; length = b.length }

-- the plan's block at the index c
abbrev pub placed_from : Plan → List ℤ → List ℕ → Placed
placed_from p zs c = record { offsets = offsets_from (plan_rows p) zs c; length = length_at (plan_cut_axes p) c }

-- THE PLAN'S BLOCKS, in document 01's order
abbrev pub placed_walk : Plan → List ℤ → List Placed
placed_walk p zs = map (placed_from p zs) (counters (plan_cut_axes p))

module _ (p : Plan) (zs : List ℤ) (r : Ready p zs) where
  made-placed : (c : List ℕ) → placed_of p.operands (made p zs r c) ≡ placed_from p zs c
  made-placed c =
      let e = take_counted (pos 0) 8 p.operands (offsets_from (plan_rows p) zs c) (length_offsets (plan_rows p) zs c (as_many p zs r) ∙ rows-many p zs r) r.few in
      λ i. record { offsets = e i; length = length_at (plan_cut_axes p) c }

  all_placed : (l : List (List ℕ)) → map (placed_of p.operands) (map (made p zs r) l) ≡ map (placed_from p zs) l
  all_placed l = map-map (placed_of p.operands) (made p zs r) l ∙ ap (λ (f : List ℕ → Placed). map f l) (λ i c. made-placed c i)

  -- the next m blocks after n steps are the plan's blocks n, n + 1, ..
  pub placed_part : (m n : ℕ) → map (placed_of p.operands) (next_blocks m p (walk_after p n (started p zs))) ≡ take m (drop n (placed_walk p zs))
  placed_part m n =
      ap (map (placed_of p.operands)) (ap (next_blocks m p) (walk-state p zs r n) ∙ blocks_from p zs r m n)
      ∙ all_placed (take m (drop n (counters (plan_cut_axes p))))
      ∙ map-take (placed_from p zs) m (drop n (counters (plan_cut_axes p)))
      ∙ ap (take m) (map-drop (placed_from p zs) n (counters (plan_cut_axes p)))

  -- and so they come next
  pub placed-next : (m n : ℕ) → drop n (placed_walk p zs) ≡ map (placed_of p.operands) (next_blocks m p (walk_after p n (started p zs))) ++ drop (n + m) (placed_walk p zs)
  placed-next m n =
      sym (take-append-drop m (drop n (placed_walk p zs)))
      ∙ ap (λ (l : List Placed). l ++ drop m (drop n (placed_walk p zs))) (sym (placed_part m n))
      ∙ ap (λ (l : List Placed). map (placed_of p.operands) (next_blocks m p (walk_after p n (started p zs))) ++ l) (drop-drop m n (placed_walk p zs))

  -- where the walk has ended none is left
  pub placed-over : (n : ℕ) → (walk_after p n (started p zs)).ended ≡ true → drop n (placed_walk p zs) ≡ []
  placed-over n h = go (state_after (plan_cut_axes p) n) refl (sym (ap (λ (w : Walk). w.ended) (walk-state p zs r n)) ∙ h)
    where
      go : (o : Option (List ℕ)) → state_after (plan_cut_axes p) n ≡ o → (packed (at p zs r o)).ended ≡ true → drop n (placed_walk p zs) ≡ []
      go None e q =
          let l = (nth_none (counters (plan_cut_axes p)) n).0 (sym (state-nth (plan_cut_axes p) (wide p zs r) n) ∙ e) in
          let m = length-map (counters (plan_cut_axes p)) (placed_from p zs) in
          let short : length (placed_walk p zs) ≤ n = omega (arith, l, m) in
          drop_of_length-le (placed_walk p zs) short
      go (Some c) e q = absurd (false≢true q)
