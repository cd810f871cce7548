-- INDEX FINDING, THERE AND BACK: for a layout that planning does not refuse, the entries that tell the original index and the plan index undo
-- each other ("From layout, purpose and counters the original index is told, and the reverse").
-- Assumes nothing.
use Rattle.std.specs.Prelude.{◌≡◌, refl, Bool, true, false, List, [], ◌∷◌, ℕ, ◌≤◌, ℤ, length, take, None, Ok, Result}
use Rattle.std.proofs.Common.{ap, ◌∙◌, arith}
use Rattle.strided.specs.Base.{padded, first}
use Rattle.strided.specs.Layout.{Within, within, extents}
use Rattle.strided.specs.Refusals.{layout_refused, refused_by, row11, served_unless}
use Rattle.strided.specs.Fuse.{plan_axes}
use Rattle.strided.specs.Index.{original_index, index_in_plan, told_original, told_plan, told}
use Rattle.strided.specs.declared.Purpose.{Purpose}
use Rattle.strided.specs.declared.Told.{Told}
use Rattle.laws.specs.Base.Arrays.{take_counted}
use Rattle.laws.specs.Base.Layouts.{within_true, true_within, within-length, length-extents}
use Rattle.laws.specs.Base.Refusals.{layout_counts}
use Rattle.laws.specs.Fuse.Maps.{plan_short, plan_in, orig_in, orig_plan, plan_orig}
use Rattle.strided.specs.declared.Refusal.{Refusal}

-- the answer that tells x
abbrev pub tells : List ℕ → Result Told Refusal
tells x = Ok (told x)

-- where f answers, g leads back from what it told
abbrev pub Undone : (List ℕ → Result Told Refusal) → (List ℕ → Result Told Refusal) → Type 0
Undone f g = (x : List ℕ) (t : Told) → f x ≡ Ok t → g (take t.count t.index) ≡ tells x

-- an index within the extents is told, and no other
told-within : (es x y : List ℕ) → Within es x → served_unless (first None (refused_by (row11 es x ∷ []))) (told y) ≡ tells y
told-within es x y h = rw (within_true es x h)

within-told : (es x y : List ℕ) (t : Told) → served_unless (first None (refused_by (row11 es x ∷ []))) (told y) ≡ Ok t → Within es x
within-told es x y t h = true_within es x (go (within es x) refl)
  where
    go : (b : Bool) → within es x ≡ b → within es x ≡ true
    go true e = e
    go false e = let q = rw e at h in cc q

read_back : (x : List ℕ) → length x ≤ 64 → take (length x) (padded 64 0 x) ≡ x
read_back x h = take_counted 0 64 (length x) x refl h

module _ (es sizes : List ℕ) (ss : List ℤ) (u : Purpose) (hl : layout_refused es sizes ss u ≡ None) where
  abbrev m : ℕ
  m = length sizes

  abbrev ps : List ℕ
  ps = extents (plan_axes es m ss u)

  -- the entry tells the original index of counters within the plan's extents, and of no others
  pub original_told : (cs : List ℕ) → Within (extents (plan_axes es (length sizes) ss u)) cs
      → told_original es sizes ss u cs ≡ tells (original_index es (length sizes) ss u cs)
  unfolding told_original
  original_told cs r = rw hl (told-within ps cs (original_index es m ss u cs) r)

  original_within : (cs : List ℕ) (t : Told) → told_original es sizes ss u cs ≡ Ok t → Within ps cs
  unfolding told_original
  original_within cs t h = within-told ps cs (original_index es m ss u cs) t (rw hl at h)

  -- and the plan index of an index within the layout's
  pub plan_told : (x : List ℕ) → Within es x → told_plan es sizes ss u x ≡ tells (index_in_plan es (length sizes) ss u x)
  unfolding told_plan
  plan_told x r = rw hl (told-within es x (index_in_plan es m ss u x) r)

  plan_within : (x : List ℕ) (t : Told) → told_plan es sizes ss u x ≡ Ok t → Within es x
  unfolding told_plan
  plan_within x t h = within-told es x (index_in_plan es m ss u x) t (rw hl at h)

  few : length es ≤ 64
  few = (layout_counts es sizes ss u hl).axes

  few_plan : (cs : List ℕ) → Within ps cs → length cs ≤ 64
  few_plan cs r = omega (arith, few, within-length ps cs r, length-extents (plan_axes es m ss u), plan_short es m ss u)

  few_original : (x : List ℕ) → Within es x → length x ≤ 64
  few_original x r = omega (arith, few, within-length es x r)

  pub told_inverse : Undone (told_original es sizes ss u) (told_plan es sizes ss u) × Undone (told_plan es sizes ss u) (told_original es sizes ss u)
  told_inverse = (there, back)
    where
      there : Undone (told_original es sizes ss u) (told_plan es sizes ss u)
      there cs t h =
          let r = original_within cs t h in
          let x : List ℕ = original_index es m ss u cs in
          let i = orig_in es m ss u cs r in
          let q = original_told cs r in
          let e : t ≡ told x = cc (h, q) in
          ap (λ (t : Told). told_plan es sizes ss u (take t.count t.index)) e
          ∙ ap (told_plan es sizes ss u) (read_back x (few_original x i))
          ∙ plan_told x i ∙ ap tells (plan_orig es m ss u cs r)

      back : Undone (told_plan es sizes ss u) (told_original es sizes ss u)
      back x t h =
          let r = plan_within x t h in
          let cs : List ℕ = index_in_plan es m ss u x in
          let i = plan_in es m ss u x r in
          let q = plan_told x r in
          let e : t ≡ told cs = cc (h, q) in
          ap (λ (t : Told). told_original es sizes ss u (take t.count t.index)) e
          ∙ ap (told_original es sizes ss u) (read_back cs (few_plan cs i))
          ∙ original_told cs i ∙ ap tells (orig_plan es m ss u x r)
