-- The invariants of `run::quiet_behind`.
use Rattle.summary.specs.Parts.{grown}
use Rattle.summary.proofs.Meeting.{Going}
use Rattle.summary.proofs.run.quiet_behind.Given as goal

abbrev pub invariant-loop-k : goal.invariant-loop-k
invariant-loop-k l = Going l.cells l.stride l.n l.s l.last l.k (grown l.s l.k l.sum) l.o
