-- The invariants of `layouts::ranks_into`.
use mathlib.Core.Path.{◌≡◌}
use Prim.Native.Nat.{◌≤◌}
use Rattle.strided.specs.Base.{padded}
use Rattle.session.specs.Made.{rows_of}
use Rattle.joining.proofs.layouts.ranks_into.Given as goal

abbrev pub invariant-loop-k : goal.invariant-loop-k
invariant-loop-k l = (l.operands ≤ 8) × (l.k ≤ l.operands) × (l.out ≡ padded 512 0 (rows_of l.table l.k))
