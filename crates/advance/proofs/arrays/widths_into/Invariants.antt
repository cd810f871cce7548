-- The invariants of `arrays::widths_into`.
use Rattle.advance.specs.Arrays.{widths_in}
use Prim.Native.Nat.{◌≤◌}
use mathlib.Core.Path.{◌≡◌}
use Rattle.advance.proofs.arrays.widths_into.Given as goal

abbrev pub invariant-loop-i : goal.invariant-loop-i
invariant-loop-i l = (l.i ≤ l.rank) × (l.w ≡ widths_in l.rank l.e l.b l.i)
