-- `walker::way::Way::blocks_left` meets its contract. Assumes nothing.
use Rattle.walker.proofs.Ahead.{told_tile, told_axis, told_tiles}
use mathlib.Core.Path.{◌≡◌, ◌∙◌}
use Prim.Native.Nat.{ℕ, ◌-◌, ◌<◌, ◌≤◌}
use native.Mathlib.Omega.{arith}
use Rattle.advance.specs.Filled.{by_lt}
use Rattle.walker.proofs.way.Way.blocks_left.Goals as goal

pub returns-then-self : goal.returns-then-self
returns-then-self c =
    let x = c.args.place in
    let left : ℕ = x.extent - x.at in
    let size : ℕ = x.width - (x.at - x.start) in
    by_lt size left
    (λ (l : size < left). let m : c.min.result ≡ size = omega (arith, c.min.ensures) in m ∙ told_tile _ _ _ _ _ x.begins c.if-self.true l)
    (λ (l : left ≤ size). let m : c.min.result ≡ left = omega (arith, c.min.ensures) in m ∙ told_axis _ _ _ _ _ x.begins c.if-self.true l)

pub returns : goal.returns
returns c = told_tiles _ _ _ _ _ c.args.place.begins c.if-self.false c.max.ensures
