-- `mark::quick::along` meets its contract: one axis's part of the reach is no more than the reach. Assumes nothing.
use mathlib.Core.Path.{sym, subst}
use Prim.Native.Nat.{◌-◌, ◌*◌, ◌^◌, ◌<◌}
use native.Mathlib.Omega.{arith}
use lib.IntN.{ℤ, pos, nat_abs}
use lib.ListN.{get_or}
use Rattle.std.proofs.Common.{rules}
use Rattle.laws.specs.Base.Bits.{read_back}
use Rattle.laws.specs.Refusals.Reaches.{term_reach}
use Rattle.mark.proofs.quick.along.Goals as goal

pub invariant_of-result : goal.invariant_of-result
invariant_of-result c =
    let a = c.args in
    let t : ℤ = get_or a.operand.strides.now a.i (pos 0) in
    let part = term_reach a.operand.extents.now a.operand.strides.now a.i (omega arith) (omega arith) in
    record { near = subst (λ (z : ℤ). (get_or a.operand.extents.now a.i 0 - 1) * nat_abs z < 2 ^ 63) (sym (read_back t (search rules))) (omega (arith, part, a.operand.sound.near)) }
