-- The invariants of `arrays::number_of`.
use mathlib.Core.Path.{◌≡◌}
use mathlib.Core.List.{[]}
use Prim.Native.Nat.{◌≤◌, ◌<◌}
use Rattle.strided.specs.Memory.{plan_of}
use Rattle.views.proofs.Tallies.{tally_from}
use Rattle.views.proofs.arrays.number_of.Given as goal

abbrev pub invariant-loop-i : goal.invariant-loop-i
invariant-loop-i l = (0 < l.i) × (l.i ≤ l.rank) × (l.t ≡ tally_from (plan_of l.rank 0 l.extents l.blocks []) l.counters l.i)
