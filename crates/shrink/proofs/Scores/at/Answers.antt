-- `shrink::Scores::at` meets its contract: the product is the score, which fits. Assumes nothing.
use native.Mathlib.Omega.{arith}
use mathlib.Core.Path.{◌≡◌, ap}
use Prim.Native.Nat.{ℕ, ◌*◌}
use lib.ListN.{get_or}
use Rattle.strided.specs.Cut.{score}
use Rattle.shrink.proofs.Scores.at.Goals as goal

pub overflow_mul-result : goal.overflow_mul-result
overflow_mul-result c =
    let e : c.saturating_sub.result * get_or c.args.self.costs.now c.args.i 0 ≡ score c.args.self.blocks.now c.args.self.costs.now c.args.i = ap (λ (x : ℕ). x * get_or c.args.self.costs.now c.args.i 0) c.saturating_sub.ensures in
    omega (arith, e, c.args.self.fit c.args.i c.requires)

pub returns : goal.returns
returns c = ap (λ (x : ℕ). x * get_or c.args.self.costs.now c.args.i 0) c.saturating_sub.ensures
