-- The invariants of `put_bytes`.
use Rattle.model.proofs.Filled.{Filling}
use Rattle.model.proofs.put_bytes.Given as goal

abbrev pub invariant-loop-i : goal.invariant-loop-i
invariant-loop-i l = Filling l.machine.numbers l.operand.axes.sizes.now l.operand.axes.strides.now l.operand.axes.rank l.operand.k l.i l.table
