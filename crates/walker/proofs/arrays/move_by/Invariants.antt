-- The invariants of `arrays::move_by`.
use mathlib.Core.Path.{◌≡◌}
use Prim.Native.Nat.{◌≤◌}
use Rattle.walker.specs.Way.{added}
use Rattle.walker.proofs.arrays.move_by.Given as goal

abbrev pub invariant-loop-k : goal.invariant-loop-k
invariant-loop-k l = (l.k ≤ l.operands) × (l.o ≡ added l.k l.d l.initial.o)
