-- The arrays of a layout's map: how they are made, and what the two ways through them tell. Assumes nothing.
use mathlib.Core.Path.{◌≡◌, refl, sym, ap, ap₂, ◌∙◌, subst}
use mathlib.Core.List.{List, [], ◌∷◌}
use Prim.Native.Nat.{ℕ, ◌^◌, ◌≤◌, ◌<◌}
use lib.IntN.{ℤ}
use lib.ListN.{length, take, replicate}
use lib.Seq.{get_or-take}
use Rattle.strided.specs.Base.{padded}
use Rattle.strided.specs.Layout.{Axis, no_axis, Within, total, axes_of, extents}
use Rattle.strided.specs.Order.{pick, place, fusing_order}
use Rattle.strided.specs.Fuse.{fuse, keep, or_first, plan_axes}
use Rattle.strided.specs.Index.{ravel, unravel, pad, original_index, index_in_plan}
use Rattle.strided.specs.declared.Purpose.{Purpose}
use Rattle.laws.specs.Base.Arrays.{length-padded, take_counted}
use Rattle.laws.specs.Base.Layouts.{length-extents, length-axes}
use Rattle.laws.specs.Order.Picked.{length-pick}
use Rattle.laws.specs.Fuse.Arrays.{extents-picked, length-fuse}
use Rattle.laws.specs.Fuse.Joined.{extents-keep}
use Rattle.laws.specs.Fuse.Radix.{kept}
use Rattle.laws.specs.Fuse.Maps.{plan_nozero}
use Rattle.laws.specs.Fuse.Finding.{fusing_length, fusing_below, fusing_total}
use Rattle.layout.specs.Fitting.{Fitting}
use Rattle.arrange.specs.Axes.{InOrder}
use Rattle.arrange.specs.Fusing.{take_order, in_order_lem}
use Rattle.fuse.specs.Planned.{extents_in}
use Rattle.finding.specs.Mapped.{Fused, Sound, fused_extents, or_one, kept_extents, or_nought, unraveled, raveled}

-- ---- made

module _ (es : List ℕ) (m : ℕ) (ss : List ℤ) (u : Purpose) (fits : Fitting ss (length es) m)
    {order : List ℕ} (is : order ≡ padded 64 0 (fusing_order es m ss u)) where
  pub ordered : InOrder (length es) (take (length es) order)
  ordered = in_order_lem es m ss u fits.rank-few is

  pub fused_made : {F : List ℕ} → F ≡ padded 64 0 (extents_in es m ss (take (length es) order)) → Fused es m ss u order F
  fused_made made =
      record {
        order_is = is;
        fused_is = made ∙ ap (λ (o : List ℕ). padded 64 0 (extents_in es m ss o)) (take_order es m ss u fits.rank-few is);
      }

-- ---- an axis stays where none is kept

kept-axes : (ks xs : List Axis) → or_one (extents ks) (extents xs) ≡ extents (or_first ks xs)
kept-axes [] [] = refl
kept-axes [] (a ∷ xs) = refl
kept-axes (k ∷ ks) xs = refl

kept_index : (ks xs : List Axis) (cs : List ℕ) → or_nought (extents ks) (extents xs) cs ≡ pad ks xs cs
kept_index [] [] cs = refl
kept_index [] (a ∷ xs) cs = refl
kept_index (k ∷ ks) xs cs = refl

-- ---- what is told

module _ {es : List ℕ} {m : ℕ} {ss : List ℤ} {u : Purpose} {order fused : List ℕ} (few : length es ≤ 64) (f : Fused es m ss u order fused) where
  abbrev n : ℕ
  n = length es

  abbrev o : List ℕ
  o = fusing_order es m ss u

  abbrev ys : List Axis
  ys = pick no_axis (axes_of es m ss) (fusing_order es m ss u)

  order_taken : take (length es) order ≡ fusing_order es m ss u
  order_taken = take_order es m ss u few f.order_is

  fused_taken : take (length es) fused ≡ fused_extents es m ss u
  fused_taken =
      ap (take n) f.fused_is
      ∙ take_counted 0 64 n (fused_extents es m ss u) (length-extents (fuse ys) ∙ length-fuse ys ∙ length-pick no_axis (axes_of es m ss) o ∙ fusing_length es m ss u) few

  in_order_taken : pick 0 es (take (length es) order) ≡ extents (pick no_axis (axes_of es m ss) (fusing_order es m ss u))
  in_order_taken = ap (pick 0 es) order_taken ∙ sym (extents-picked ss n m es o (fusing_below es m ss u))

  pub extents_are : kept_extents (take (length es) fused) ≡ extents (plan_axes es m ss u)
  unfolding plan_axes
  extents_are =
      ap kept_extents fused_taken
      ∙ ap (λ (l : List ℕ). or_one l (extents (fuse ys))) (sym (extents-keep (fuse ys)))
      ∙ kept-axes (keep (fuse ys)) (fuse ys)

  pub rank_are : length (kept_extents (take (length es) fused)) ≡ length (plan_axes es m ss u)
  rank_are = ap length extents_are ∙ length-extents (plan_axes es m ss u)

  pub unraveled_is : (cs : List ℕ) → unraveled es order fused cs ≡ original_index es m ss u cs
  unfolding original_index
  unraveled_is cs =
      ap₂ (λ (a b : List ℕ). place (replicate n 0) (take n order) (unravel a b cs 0)) in_order_taken fused_taken
      ∙ ap (λ (a : List ℕ). place (replicate n 0) a (unravel (extents ys) (extents (fuse ys)) cs 0)) order_taken
      ∙ ap (λ (k : ℕ). place (replicate k 0) o (unravel (extents ys) (extents (fuse ys)) cs 0)) (sym (length-axes ss (length es) m 0 es))

  pub raveled_is : (is : List ℕ) → raveled es order fused is ≡ index_in_plan es m ss u is
  unfolding index_in_plan
  raveled_is is =
      ap₂ (λ (a b : List ℕ). or_nought (kept b) b (ravel a b (pick 0 is (take n order))).counters) in_order_taken fused_taken
      ∙ ap₂ (λ (a b : List ℕ). or_nought a (extents (fuse ys)) (ravel (extents ys) (extents (fuse ys)) (pick 0 is b)).counters) (sym (extents-keep (fuse ys))) order_taken
      ∙ kept_index (keep (fuse ys)) (fuse ys) (ravel (extents ys) (extents (fuse ys)) (pick 0 is o)).counters

-- the arrays serve both ways
pub sound : {es : List ℕ} {m : ℕ} {ss : List ℤ} {u : Purpose} {order fused : List ℕ} → Fitting ss (length es) m → Fused es m ss u order fused
    → total es < 2 ^ 64 → Sound es order fused
sound {es} {m} {ss} {u} {order} fits f cells =
    let t = ordered es m ss u fits f.order_is in
    record {
      few-axes = fits.rank-few;
      order_long = ap length f.order_is ∙ length-padded 0 64 (fusing_order es m ss u);
      fused_long = ap length f.fused_is ∙ length-padded 0 64 (fused_extents es m ss u);
      inside = λ j h. subst (λ (a : ℕ). a < length es) (get_or-take (length es) order j 0 h) (t.inside j h);
      cells = subst (λ (t : ℕ). t < 2 ^ 64) (sym (ap (λ (l : List ℕ). total (pick 0 es l)) (order_taken fits.rank-few f) ∙ fusing_total es m ss u)) cells;
      positive = λ cs r. plan_nozero es m ss u cs (subst (λ (l : List ℕ). Within l cs) (extents_are fits.rank-few f) r);
    }
