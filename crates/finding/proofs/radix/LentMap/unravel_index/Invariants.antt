-- The invariants of `radix::LentMap::unravel_index`.
use Rattle.finding.proofs.Turns.{Telling}
use Rattle.finding.proofs.radix.LentMap.unravel_index.Given as goal

abbrev pub invariant-loop-i : goal.invariant-loop-i
invariant-loop-i l = Telling l.self.extents.now l.self.order.now l.self.fused.now l.counters l.i l.j l.x l.out
