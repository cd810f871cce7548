-- The invariants of `few::few_repeat`.
use Rattle.distinct.proofs.Layouts.{Behind}
use Rattle.distinct.proofs.few.few_repeat.Given as goal

abbrev pub invariant-loop-i : goal.invariant-loop-i
invariant-loop-i l = Behind 256 l.operand.extents.now l.operand.strides.now l.list l.n l.i
