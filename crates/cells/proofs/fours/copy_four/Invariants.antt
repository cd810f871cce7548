-- The invariants of `fours::copy_four`.
use mathlib.Core.Path.{◌≡◌}
use Prim.Native.Nat.{◌≤◌}
use Rattle.cells.specs.Copy.{copied}
use Rattle.cells.specs.Reaching.{crossing}
use Rattle.cells.proofs.fours.copy_four.Given as goal

abbrev pub invariant-loop-i : goal.invariant-loop-i
invariant-loop-i l =
    (l.i ≤ l.patch.n0) × (l.destination ≡ copied l.patch.width (crossing l.i l.j 4 l.patch.to l.patch.from) l.initial.destination l.source)
