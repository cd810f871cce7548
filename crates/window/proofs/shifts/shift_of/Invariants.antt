-- The invariants of `shifts::shift_of`.
use Rattle.window.proofs.Sums.{Summed}
use Rattle.window.proofs.shifts.shift_of.Given as goal

abbrev pub invariant-loop-first : goal.invariant-loop-first
invariant-loop-first l = Summed l.firsts l.strides l.sum l.first-iterator.a.rest.now l.first-iterator.b.rest.now
