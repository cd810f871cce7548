-- The invariants of `shorten`.
use mathlib.Core.Path.{◌≡◌}
use Prim.Native.Nat.{min}
use Rattle.strided.specs.Region.{region}
use Rattle.strided.specs.Cut.{cells}
use Rattle.laws.specs.Cut.Saturate.{cap}
use Rattle.laws.specs.Cut.Steps.{ScoresFit}
use Rattle.region.specs.Tail.{axes}
use Rattle.shrink.specs.Rules.{Shortens}
use Rattle.shrink.proofs.shorten.Given as goal

abbrev pub invariant-loop-r : goal.invariant-loop-r
invariant-loop-r g l = ScoresFit l.tail.rank l.costs l.blocks
    × (l.r ≡ min (region l.tail.machine.numbers l.tail.bytes.now l.tail.operands l.blocks l.tail.offset (axes l.tail)) (cap l.tail.machine.numbers))
    × ((s : Shortens (goal.F-post g l.f) l.least l.tail.machine.numbers l.tail.bytes.now l.tail.operands l.costs l.tail.offset (axes l.tail) l.tail.rank) → s.rule l.blocks ≡ s.rule l.initial.blocks)

abbrev pub decreases-loop-r : goal.decreases-loop-r
decreases-loop-r g l = cells l.tail.offset (axes l.tail) l.blocks
