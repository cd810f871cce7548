-- The invariants of `least_in`.
use mathlib.Core.Path.{◌≡◌}
use Rattle.strided.specs.Base.{least}
use Rattle.region.specs.Tail.{axes}
use Rattle.block.proofs.least_in.Given as goal

abbrev pub invariant-loop-k : goal.invariant-loop-k
invariant-loop-k g l = let t = l.some.tail in l.m ≡ least (λ j. least (g.T.Table.at l.table j) t.offset (axes t)) 0 l.k
