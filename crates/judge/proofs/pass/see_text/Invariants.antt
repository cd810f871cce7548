-- The invariants of `pass::see_text`.
use lib.ListN.{length}
use Rattle.judge.proofs.Passing.{Checking}
use Rattle.judge.proofs.pass.see_text.Given as goal

abbrev pub invariant-loop-rest : goal.invariant-loop-rest
invariant-loop-rest l = Checking l.cells.extents.now l.text l.rest l.out

abbrev pub decreases-loop-rest : goal.decreases-loop-rest
decreases-loop-rest l = length l.rest
