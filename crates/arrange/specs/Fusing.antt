-- Orders of a layout's axes in an array: the places that count; and the order in which a plan's axes are fused is one, in which they make
-- the plan's axes. Assumes nothing.
use Rattle.std.specs.Prelude.{◌≡◌, ℕ, ◌≤◌, ◌<◌, ℤ, length, get_or, take}
use Rattle.std.proofs.Common.{sym, ◌∙◌, subst, arith}
use Rattle.std.proofs.Math.Path.{ap}
use mathlib.Core.List.{List}
use Rattle.strided.specs.Base.{padded}
use Rattle.strided.specs.Layout.{Axis, no_axis, axes_of}
use Rattle.strided.specs.Order.{pick, fusing_order}
use Rattle.strided.specs.Fuse.{fused_axes, plan_axes}
use Rattle.strided.specs.declared.Purpose.{Purpose}
use Rattle.laws.specs.Base.Arrays.{take_counted}
use Rattle.laws.specs.Fuse.Arrays.{Below, at-below, below_at}
use Rattle.laws.specs.Fuse.Finding.{fusing_length, fusing_below}
use Rattle.arrange.specs.Axes.{InOrder}

pub order_below : {rank : ℕ} {order : List ℕ} → InOrder rank order → Below rank order
order_below {rank = rank} {order = order} t = at-below rank order (λ j q. t.inside j (omega (arith, t.all)))

-- ---- the order of fusing

module _ (es : List ℕ) (m : ℕ) (ss : List ℤ) (u : Purpose) (few : length es ≤ 64)
    {order : List ℕ} (is : order ≡ padded 64 0 (fusing_order es m ss u)) where
  pub take_order : take (length es) order ≡ fusing_order es m ss u
  take_order = ap (take (length es)) is ∙ take_counted 0 64 (length es) (fusing_order es m ss u) (fusing_length es m ss u) few

  pub axes_in_order : fused_axes (pick no_axis (axes_of es m ss) (take (length es) order)) ≡ plan_axes es m ss u
  unfolding plan_axes
  axes_in_order = ap (λ (o : List ℕ). fused_axes (pick no_axis (axes_of es m ss) o)) take_order

  -- and arrays of the ones are arrays of the others
  pub as_planned : {A : Type 0} (f : List Axis → A) {x : A} → x ≡ f (fused_axes (pick no_axis (axes_of es m ss) (take (length es) order))) → x ≡ f (plan_axes es m ss u)
  as_planned f q = q ∙ ap f axes_in_order

  pub in_order_lem : InOrder (length es) (take (length es) order)
  in_order_lem =
      record {
        all = ap length take_order ∙ fusing_length es m ss u;
        inside =
            λ j l. subst (λ (o : List ℕ). get_or o j 0 < length es) (sym take_order)
            (below_at (length es) (fusing_order es m ss u) (fusing_below es m ss u) j (omega (arith, fusing_length es m ss u)));
      }
