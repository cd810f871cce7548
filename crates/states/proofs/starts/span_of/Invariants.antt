-- The invariants of `starts::span_of`.
use Prim.Native.Nat.{◌≤◌}
use lib.ListN.{length}
use Rattle.states.proofs.Ways.{Left, Further}
use Rattle.states.proofs.starts.span_of.Given as goal

abbrev pub invariant-loop-i : goal.invariant-loop-i
invariant-loop-i l = (l.i ≤ length l.extents) × (Further l.extents l.strides l.reach l.i × Left l.extents l.strides l.counters l.below l.i)
