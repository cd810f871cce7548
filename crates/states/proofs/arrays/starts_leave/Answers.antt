-- `states::arrays::starts_leave` meets its contract. Assumes nothing.
use Rattle.states.proofs.Table.{standing_in}
use Rattle.laws.specs.Refusals.Operands.{operands_zero, operands_some}
use Rattle.states.specs.Arrays.{some_leave, leaves_at}
use Rattle.states.proofs.arrays.starts_leave.Goals as goal

pub returns-else-not-has_zero : goal.returns-else-not-has_zero
unfolding some_leave
returns-else-not-has_zero c =
    let a = c.args in
    rw c.if-not-has_zero.false (operands_zero a.extents.now (leaves_at a.extents.now a.strides.now a.counters.now a.offsets.now) _ c.has_zero.ensures c.if-not-has_zero.false)

pub some_leave-requires : goal.some_leave-requires
some_leave-requires c = standing_in c.requires c.has_zero.ensures c.if-not-has_zero.true

pub returns-then-not-has_zero : goal.returns-then-not-has_zero
unfolding some_leave
returns-then-not-has_zero c =
    let a = c.args in
    operands_some a.extents.now (leaves_at a.extents.now a.strides.now a.counters.now a.offsets.now) _ c.has_zero.ensures c.if-not-has_zero.true c.some_leave.ensures
