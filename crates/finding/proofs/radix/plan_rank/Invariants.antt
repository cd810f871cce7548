-- The invariants of `radix::plan_rank`.
use Rattle.finding.proofs.Kept.{Passed}
use Rattle.finding.proofs.radix.plan_rank.Given as goal

abbrev pub invariant-loop-f : goal.invariant-loop-f
invariant-loop-f l = Passed l.fused l.f-index l.count
