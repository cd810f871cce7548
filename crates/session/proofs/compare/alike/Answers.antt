-- `session::compare::alike` meets its contract. Assumes nothing.
use native.Mathlib.Nat.{le_antisymm}
use Rattle.session.proofs.Comparing.{gathered_none, gathered_more, gathered_end}
use Rattle.session.proofs.compare.alike.Goals as goal

pub loop-i-init : goal.loop-i-init
loop-i-init g c = gathered_none _

pub loop-i-preserved : goal.loop-i-preserved
loop-i-preserved g c = gathered_more _ _ _ _ c.loop-i.invariant c.differ-differing.ensures

pub returns : goal.returns
returns g c = gathered_end _ _ _ _ (le_antisymm c.loop-i.auto.i-end c.loop-i-test.false) c.loop-i.invariant
