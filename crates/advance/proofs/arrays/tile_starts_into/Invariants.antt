-- The invariants of `arrays::tile_starts_into`.
use Rattle.advance.specs.Axis.{starts_to}
use Prim.Native.Nat.{◌≤◌}
use mathlib.Core.Path.{◌≡◌}
use Rattle.advance.proofs.arrays.tile_starts_into.Given as goal

abbrev pub invariant-loop-i : goal.invariant-loop-i
invariant-loop-i l = (l.i ≤ l.rank) × (l.t ≡ starts_to l.w l.c l.i)
