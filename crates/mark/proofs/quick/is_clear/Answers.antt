-- `mark::quick::is_clear` meets its contract. Assumes nothing.
use Rattle.std.proofs.Common.{rules}
use mathlib.Core.Path.{◌≡◌, sym, ap, ◌∙◌}
use Prim.Native.Nat.{◌-◌, ◌*◌}
use native.Mathlib.Omega.{arith}
use lib.IntN.{ℤ, nat_abs}
use lib.ListN.{get_or}
use Rattle.mark.proofs.Parts.{size_le, clear_small, clear_test}
use Rattle.mark.proofs.quick.is_clear.Goals as goal
use Rattle.mark.proofs.quick.is_clear.Goals.{After-unsigned_abs-size}

size_is : (c : After-unsigned_abs-size) → c.unsigned_abs-size.result ≡ nat_abs c.along-axis.result.stride
size_is c = search rules

pub returns-then-axis-le1 : goal.returns-then-axis-le1
returns-then-axis-le1 c = let a = c.args in clear_small a.operand.extents.now a.operand.strides.now a.i (omega (arith, c.along-axis.ensures.extent, c.if-axis-le1.true))

pub overflow_add-result : goal.overflow_add-result
overflow_add-result c =
    let axis = c.along-axis.result in
    let size = size_is (goal.at.overflow_add-result c).After-unsigned_abs-size in
    omega (arith, c.way.ensures, size, c.along-axis.result.near, size_le axis.extent (nat_abs axis.stride) c.if-axis-le1.false)

pub returns : goal.returns
returns c =
    let a = c.args in
    let e = c.along-axis.ensures in
    let size = size_is (goal.at.returns c).After-unsigned_abs-size in
    let way : c.way.result ≡ (get_or a.operand.extents.now a.i 0 - 1) * c.unsigned_abs-size.result = c.way.ensures ∙ (λ j. (e.extent j - 1) * sym size j) in
    rw way
    (clear_test a.operand.extents.now a.operand.strides.now a.i (omega (arith, e.extent, c.if-axis-le1.false)) c.reach_up_to.result c.unsigned_abs-size.result c.reach_up_to.ensures
    (size ∙ ap (λ (z : ℤ). nat_abs z) e.stride))
