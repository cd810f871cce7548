-- The invariants of `radix::LentMap::ravel_index`.
use Prim.Native.Nat.{◌≤◌}
use lib.ListN.{length}
use Rattle.finding.proofs.Turns.{Done}
use Rattle.finding.proofs.radix.LentMap.ravel_index.Given as goal

abbrev pub invariant-loop-i : goal.invariant-loop-i
invariant-loop-i l = (l.i ≤ length l.self.extents.now) × (l.j ≤ 64) × Done l.self.extents.now l.self.order.now l.self.fused.now l.index l.i l.j l.z l.out
