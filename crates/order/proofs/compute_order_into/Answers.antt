-- `order::compute_order_into` meets its contract, by what its callees ensure: the weights read from the array are those of the list. Assumes nothing.
use mathlib.Core.Path.{◌≡◌, ◌∙◌, ap}
use mathlib.Core.Bool.{◌&&◌, ◌||◌}
use mathlib.Core.List.{List}
use Prim.Native.Nat.{ℕ, ◌≤◌}
use native.Mathlib.Omega.{arith}
use lib.Dec.{ltb, leb, eqb}
use lib.ListN.{length, get_or}
use Rattle.strided.specs.Base.{padded}
use Rattle.strided.specs.Layout.{lead}
use Rattle.strided.specs.Order.{follows, order_to, loop_order}
use Rattle.strided.specs.Weights.{weights}
use Rattle.laws.specs.Base.Filling.{read_padded}
use Rattle.laws.specs.Order.Tries.{weights_long}
use Rattle.order.proofs.compute_order_into.Goals as goal

-- axes are compared by the array's weights as by the list's
order_padded : (ws es : List ℕ) (n : ℕ) → length ws ≤ 64 → order_to (follows (padded 64 0 ws) es) n ≡ order_to (follows ws es) n
order_padded ws es n h =
    λ j. let w : ℕ → ℕ = λ i. read_padded 64 0 ws h i j in
    order_to (λ x y. ltb (w x) (w y) || (eqb (w x) (w y) && leb (get_or es x 0) (get_or es y 0))) n

pub returns : goal.returns
unfolding loop_order
returns c =
    let a = c.args in
    let es = a.layout.extents.now in
    let ws : List ℕ = weights es a.layout.operands a.layout.strides.now (lead a.purpose) in
    let long : length ws ≤ 64 = omega (arith, weights_long es a.layout.operands a.layout.strides.now (lead a.purpose) c.args.layout.fits.operands_few, c.args.layout.fits.rank-few) in
    let w = c.compute_importance_into.ensures ∙ ap (λ (k : ℕ). padded 64 0 (weights es a.layout.operands a.layout.strides.now k)) c.lead.ensures in record {
      weights = w;
      order = c.sort_by_importance_into.ensures
          ∙ ap (λ (v : List ℕ). padded 64 0 (order_to (follows v es) (length es))) w
          ∙ ap (padded 64 0) (order_padded ws es (length es) long);
    }
