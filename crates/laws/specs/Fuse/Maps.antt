-- A LAYOUT'S PLAN: it has no more axes than the layout and the same total; the plan index and the original index of document 01's "Fused
-- axes" stay in range, undo each other and keep every operand's offset. Over the definitions that the entries cite.
-- Assumes nothing.
use Rattle.std.specs.Prelude.{◌≡◌, Bool, true, false, ℕ, suc, ◌*◌, ◌≤◌, ◌<◌, eqb, ℤ, length}
use Rattle.std.proofs.Math.Path.{sym, ap, subst}
use Rattle.std.proofs.Common.{◌∙◌, arith}
use mathlib.Core.List.{List, [], ◌∷◌}
use Rattle.strided.specs.Base.{unless}
use Rattle.strided.specs.Layout.{Axis, no_axis, Within, NoZero, dot, total, extents, row, stride_row, axes_of}
use Rattle.strided.specs.Order.{pick, fusing_order}
use Rattle.strided.specs.Fuse.{fuse, keep, or_first, fused_axes, plan_axes}
use Rattle.strided.specs.Index.{unravel_by, original_index, index_in_plan}
use Rattle.strided.specs.declared.Purpose.{Purpose}
use Rattle.laws.specs.Base.Layouts.{within-total, total_nozero, extents-axes, length-axes, axes-row}
use Rattle.laws.specs.Order.Permutation.{Permutes, fusing_permutes}
use Rattle.laws.specs.Order.Picked.{length-pick}
use Rattle.laws.specs.Fuse.Arrays.{length-fuse}
use Rattle.laws.specs.Fuse.Ordered.{order_total, index_range, unravel_index_lem, told_range, index_unravel, told-dot}

-- ---- fusing adds no axis

length-keep : (xs : List Axis) → length (keep xs) ≤ length xs
length-keep [] = omega arith
length-keep (a ∷ xs) = go (eqb a.extent 1) (length-keep xs)
  where
    go : (c : Bool) → length (keep xs) ≤ length xs → length (unless c a (keep xs)) ≤ suc (length xs)
    go true h = omega arith
    go false h = omega arith

length-or_first : (ks xs : List Axis) → length ks ≤ length xs → length (or_first ks xs) ≤ length xs
length-or_first [] [] h = omega arith
length-or_first [] (a ∷ xs) h = omega arith
length-or_first (k ∷ ks) xs h = h

length_fused : (xs : List Axis) → length (fused_axes xs) ≤ length xs
length_fused xs = let h = length-or_first (keep (fuse xs)) (fuse xs) (length-keep (fuse xs)) in omega (arith, length-fuse xs)

-- ---- the layout

module _ (es : List ℕ) (m : ℕ) (ss : List ℤ) (u : Purpose) where
  abbrev xs : List Axis
  xs = axes_of es m ss

  abbrev o : List ℕ
  o = fusing_order es m ss u

  same-extents : extents xs ≡ es
  same-extents = extents-axes ss (length es) m 0 es

  pub axes_permuted : Permutes (length (axes_of es m ss)) (fusing_order es m ss u)
  axes_permuted = subst (λ (n : ℕ). Permutes n o) (sym (length-axes ss (length es) m 0 es)) (fusing_permutes es m ss u)

  axes-within : (x : List ℕ) → Within es x → Within (extents (axes_of es m ss)) x
  axes-within x r = subst (λ (l : List ℕ). Within l x) (sym same-extents) r

  pub axes_nozero : NoZero es → NoZero (extents (axes_of es m ss))
  axes_nozero z = subst NoZero (sym same-extents) z

  pub plan_short : length (plan_axes es m ss u) ≤ length es
  unfolding plan_axes
  plan_short = omega (arith, length_fused (pick no_axis xs o), length-pick no_axis xs o, (fusing_permutes es m ss u).many)

  -- the total is kept
  pub plan_total : total (extents (plan_axes es m ss u)) ≡ total es
  unfolding plan_axes
  plan_total = sym (order_total o xs axes_permuted) ∙ ap total same-extents

  -- a plan index is in range
  pub plan_in : (x : List ℕ) → Within es x → Within (extents (plan_axes es m ss u)) (index_in_plan es m ss u x)
  unfolding plan_axes index_in_plan
  plan_in x r = index_range o xs axes_permuted x (axes-within x r)

  -- the original index of a plan index is the one it was of
  pub orig_plan : (x : List ℕ) → Within es x → original_index es m ss u (index_in_plan es m ss u x) ≡ x
  unfolding original_index index_in_plan
  orig_plan x r = unravel_index_lem o xs axes_permuted x (axes-within x r)

  module _ (y : List ℕ) (r : Within (extents (plan_axes es m ss u)) y) where
    -- then no extent is 0
    pub plan_nozero : NoZero es
    plan_nozero = total_nozero es (subst (λ (n : ℕ). 0 < n) plan_total (within-total (extents (plan_axes es m ss u)) y r))

    -- an original index is in range
    pub orig_in : Within es (original_index es m ss u y)
    unfolding original_index plan_axes
    orig_in = subst (λ (l : List ℕ). Within l (unravel_by o xs y)) same-extents (told_range o xs axes_permuted (axes_nozero plan_nozero) y r)

    -- the plan index of an original index is the one it was told from
    pub plan_orig : index_in_plan es m ss u (original_index es m ss u y) ≡ y
    unfolding original_index index_in_plan plan_axes
    plan_orig = index_unravel o xs axes_permuted (axes_nozero plan_nozero) y r

    -- offsets are kept, at each operand
    pub same-dot : length ss ≡ length es * m → (k : ℕ) → k < m
        → dot y (row k (plan_axes es m ss u)) ≡ dot (original_index es m ss u y) (stride_row ss (length es) k)
    unfolding original_index plan_axes
    same-dot hl k p = told-dot o xs axes_permuted (axes_nozero plan_nozero) y r k ∙ ap (dot (unravel_by o xs y)) (axes-row es m ss k hl p)
