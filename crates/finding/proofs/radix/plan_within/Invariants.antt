-- The invariants of `radix::plan_within`.
use Rattle.finding.proofs.Kept.{Held}
use Rattle.finding.proofs.radix.plan_within.Given as goal

abbrev pub invariant-loop-f : goal.invariant-loop-f
invariant-loop-f l = Held l.fused l.counters l.f-index l.j
