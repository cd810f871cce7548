-- The invariants of `arrays::column`.
use mathlib.Core.Path.{◌≡◌}
use Prim.Native.Nat.{◌≤◌}
use Rattle.advance.specs.Blocks.{column_to}
use Rattle.advance.proofs.arrays.column.Given as goal

abbrev pub invariant-loop-k : goal.invariant-loop-k
invariant-loop-k l = (l.k ≤ l.operands) × (l.strides ≡ column_to l.axis l.s l.k)
