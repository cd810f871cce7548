-- The invariants of `region_of`.
use mathlib.Core.Path.{◌≡◌}
use Prim.Native.Nat.{◌-◌, ◌*◌, ◌≤◌, min}
use Rattle.strided.specs.Base.{sum, product}
use Rattle.strided.specs.Region.{near, far}
use Rattle.laws.specs.Cut.Saturate.{cap}
use Rattle.region.proofs.region_of.Given as goal

abbrev pub invariant-loop-i : goal.invariant-loop-i
invariant-loop-i l =
    (l.c ≤ 536871168 * l.i)
    × (min l.c (cap l.fn.tail.machine.numbers) ≡ min (sum (near l.fn.tail.machine.numbers l.fn.tail.bytes.now l.blocks l.k) l.fn.tail.offset (l.i - l.fn.tail.offset)) (cap l.fn.tail.machine.numbers))
    × (l.m ≡ min (product (far l.fn.tail.machine.numbers l.fn.tail.bytes.now l.blocks l.k) l.fn.tail.offset (l.i - l.fn.tail.offset)) (cap l.fn.tail.machine.numbers))
