-- The invariants of `shifts::sums_into`.
use mathlib.Core.Path.{◌≡◌}
use mathlib.Core.List.{map}
use Prim.Native.Nat.{◌≤◌}
use lib.IntN.{pos}
use Rattle.strided.specs.Base.{padded, run}
use Rattle.window.specs.Selected.{sum_at}
use Rattle.window.proofs.shifts.sums_into.Given as goal

abbrev pub invariant-loop-k : goal.invariant-loop-k
invariant-loop-k l = (l.k ≤ l.selection.layout.operands) × (l.shifts ≡ padded 8 (pos 0) (map (sum_at l.selection) (run 0 l.k)))
