-- The invariants of `pick_into`.
use mathlib.Core.Path.{◌≡◌}
use mathlib.Core.List.{◌++◌}
use Prim.Native.Nat.{◌≤◌}
use lib.ListN.{length, take, drop}
use Rattle.strided.specs.Base.{padded}
use Rattle.strided.specs.Order.{pick}
use Rattle.arrange.proofs.pick_into.Given as goal

abbrev pub invariant-loop-j : goal.invariant-loop-j
invariant-loop-j g l = (l.j ≤ length (g.O.Order.names l.order)) × (l.out ≡ padded 64 0 (take l.j (pick 0 l.xs (g.O.Order.names l.order)) ++ drop l.j (take (length (g.O.Order.names l.order)) l.initial.out)))
