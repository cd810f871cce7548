-- The invariants of `arrays::inner_axes`.
use Rattle.advance.specs.Arrays.{SingleTo}
use Rattle.advance.proofs.arrays.inner_axes.Given as goal

abbrev pub invariant-loop-i : goal.invariant-loop-i
invariant-loop-i l = SingleTo l.i l.rank l.w
