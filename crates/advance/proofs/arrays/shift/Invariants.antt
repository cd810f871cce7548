-- The invariants of `arrays::shift`.
use mathlib.Core.Path.{◌≡◌}
use Prim.Native.Nat.{◌≤◌}
use Rattle.advance.specs.Moves.{shifted_to}
use Rattle.advance.proofs.arrays.shift.Given as goal

abbrev pub invariant-loop-k : goal.invariant-loop-k
invariant-loop-k l = (l.k ≤ l.operands) × (l.o ≡ shifted_to l.k l.axis l.from l.to l.s l.initial.o)
