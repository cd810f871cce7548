-- The invariants of `level`.
use Prim.Native.Nat.{◌-◌, ◌<◌, ◌^◌}
use Rattle.laws.specs.Cut.Level.{Seeking}
use Rattle.region.specs.Tail.{axes}
use Rattle.shrink.proofs.level.Given as goal

abbrev pub invariant-loop-lo : goal.invariant-loop-lo
invariant-loop-lo l = Seeking l.scores.tail.machine.numbers l.scores.tail.bytes.now l.scores.tail.operands l.fn.scores.costs.now l.scores.tail.offset (axes l.scores.tail) l.fn.scores.blocks.now l.t l.lo l.hi × (l.hi < 2 ^ 64)

abbrev pub decreases-loop-lo : goal.decreases-loop-lo
decreases-loop-lo l = l.hi - l.lo
