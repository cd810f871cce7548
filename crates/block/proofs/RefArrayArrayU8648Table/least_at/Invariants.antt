-- The invariants of `least_at` on the table of ranks.
use mathlib.Core.Path.{◌≡◌}
use Prim.Native.Nat.{◌-◌}
use Rattle.strided.specs.Base.{least}
use Rattle.strided.specs.Cut.{rank_at}
use Rattle.block.proofs.RefArrayArrayU8648Table.least_at.Given as goal

abbrev pub invariant-loop-i : goal.invariant-loop-i
invariant-loop-i l = l.m ≡ least (rank_at l.self l.k) l.some.tail.offset (l.i - l.some.tail.offset)
