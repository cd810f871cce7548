-- The invariants of `memory_region`.
use mathlib.Core.Path.{◌≡◌}
use Prim.Native.Nat.{min}
use Rattle.strided.specs.Base.{sum}
use Rattle.strided.specs.Region.{region_of}
use Rattle.laws.specs.Cut.Saturate.{cap}
use Rattle.region.specs.Tail.{axes}
use Rattle.region.proofs.memory_region.Given as goal

abbrev pub invariant-loop-k : goal.invariant-loop-k
invariant-loop-k l = l.r ≡ min (sum (region_of l.tail.machine.numbers l.tail.bytes.now l.blocks l.tail.offset (axes l.tail)) 0 l.k) (cap l.tail.machine.numbers)
