-- The invariants of `least_at` on the table of byte strides.
use mathlib.Core.Path.{◌≡◌}
use Prim.Native.Nat.{◌-◌}
use Rattle.strided.specs.Base.{least}
use Rattle.strided.specs.Region.{byte_at}
use Rattle.block.proofs.RefArrayU32512Table.least_at.Given as goal

abbrev pub invariant-loop-i : goal.invariant-loop-i
invariant-loop-i l = l.m ≡ least (byte_at l.self l.k) l.some.tail.offset (l.i - l.some.tail.offset)
