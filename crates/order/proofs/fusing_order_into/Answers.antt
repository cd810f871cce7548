-- `order::fusing_order_into` meets its contract. Assumes nothing.
use mathlib.Core.Path.{◌≡◌, sym, ap, ◌∙◌}
use mathlib.Core.Bool.{Bool, true, false, cond}
use mathlib.Core.List.{List}
use Prim.Native.Nat.{ℕ, ◌≤◌}
use lib.Dec.{leb}
use lib.IntN.{ℤ}
use native.Mathlib.Omega.{arith}
use lib.ListN.{length, take, drop, replicate, length-take, length-replicate}
use Rattle.strided.specs.Base.{padded, run}
use Rattle.strided.specs.Layout.{total, lead}
use Rattle.strided.specs.Order.{loop_order, fusing_order}
use Rattle.strided.specs.Step.{blank}
use Rattle.strided.specs.Weights.{weights}
use Rattle.strided.specs.declared.Purpose.{Purpose}
use Rattle.laws.specs.Base.Arrays.{blank-ℕ, blank_behind}
use Rattle.laws.specs.Base.Lists.{length_run}
use Rattle.laws.specs.Base.Stores.{blank-first, front-padded}
use Rattle.laws.specs.Order.Tries.{weights_long}
use Rattle.order.proofs.fusing_order_into.Goals as goal

-- the code's test b of the total decides
module _ (es : List ℕ) (m : ℕ) (ss : List ℤ) (u : Purpose) {b : Bool} (is : b ≡ leb (total es) 1024) where
  small : b ≡ true → run 0 (length es) ≡ fusing_order es m ss u
  unfolding fusing_order
  small h = sym (ap (λ (t : Bool). cond t (run 0 (length es)) (loop_order es m ss u)) (sym is ∙ h))

  large : b ≡ false → loop_order es m ss u ≡ fusing_order es m ss u
  unfolding fusing_order
  large h = sym (ap (λ (t : Bool). cond t (run 0 (length es)) (loop_order es m ss u)) (sym is ∙ h))

-- an array that is a row padded is 0 behind it, and so is an array of zeros behind any place
behind : (w ws : List ℕ) (n : ℕ) → length ws ≡ n → w ≡ padded 64 0 ws → blank (drop n w) ≡ true
behind w ws n e h = ap (λ (v : List ℕ). blank (drop n v)) h ∙ blank_behind blank-ℕ 64 n ws e

zeros_behind : (w : List ℕ) (n : ℕ) → n ≤ 64 → w ≡ replicate 64 0 → blank (drop n w) ≡ true
zeros_behind w n l h = behind w (replicate n 0) n (length-replicate {A = ℕ} n 0) (h ∙ blank-first 0 64 n l)

pub returns-then-total_at_most : goal.returns-then-total_at_most
returns-then-total_at_most c =
    let a = c.args in
    let n = length a.layout.extents.now in
    let few : n ≤ 64 = c.args.layout.fits.rank-few in
    let g = c.as_given_into in
    let long : length a.out.now ≡ 64 = ap length c.requires.zeros.1 ∙ length-replicate {A = ℕ} 64 0 in
    let front : length (take n a.out.now) ≡ n = omega (arith, length-take n a.out.now, long, few) in record {
      weights = zeros_behind _ n few c.requires.zeros.0;
      order = front-padded 0 64 n _ (run 0 n) _ (g.ensures ∙ ap (run 0) front) c.requires.zeros.1 (length_run 0 n) few
          ∙ ap (padded 64 0) (small a.layout.extents.now a.layout.operands a.layout.strides.now a.purpose c.total_at_most.ensures c.if-total_at_most.true);
    }

pub returns-else-total_at_most : goal.returns-else-total_at_most
returns-else-total_at_most c =
    let a = c.args in
    let n = length a.layout.extents.now in
    let ws : List ℕ = weights a.layout.extents.now a.layout.operands a.layout.strides.now (lead a.purpose) in
    let long : length ws ≡ n = weights_long a.layout.extents.now a.layout.operands a.layout.strides.now (lead a.purpose) c.args.layout.fits.operands_few in record { weights = behind _ ws n long c.compute_order_into.ensures.weights; order = c.compute_order_into.ensures.order ∙ ap (padded 64 0) (large a.layout.extents.now a.layout.operands a.layout.strides.now a.purpose c.total_at_most.ensures c.if-total_at_most.false) }
