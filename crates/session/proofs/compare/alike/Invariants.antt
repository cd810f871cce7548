-- The invariants of `compare::alike`.
use Rattle.session.proofs.Comparing.{Gathered}
use Rattle.session.proofs.compare.alike.Given as goal

abbrev pub invariant-loop-i : goal.invariant-loop-i
invariant-loop-i g l = Gathered (goal.F-post g l.differ) l.differing l.i
