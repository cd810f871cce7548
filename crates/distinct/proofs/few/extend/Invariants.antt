-- The invariants of `few::extend`.
use Rattle.distinct.proofs.Extending.{Extended}
use Rattle.distinct.proofs.few.extend.Given as goal

abbrev pub invariant-loop-j : goal.invariant-loop-j
invariant-loop-j l = Extended l.initial.list l.n l.extent l.size l.list l.j
