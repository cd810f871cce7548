-- The invariants of `many_repeat`.
use lib.ListN.{take}
use Rattle.distinct.specs.Lists.{Rising}
use Rattle.distinct.proofs.Layouts.{Behind}
use Rattle.distinct.proofs.many_repeat.Given as goal

abbrev pub invariant-loop-i : goal.invariant-loop-i
invariant-loop-i l = Behind 4096 l.operand.extents.now l.operand.strides.now l.list l.n l.i × Rising (take l.n l.list)
