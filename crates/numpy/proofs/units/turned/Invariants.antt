-- The invariants of `units::turned`.
use Rattle.numpy.proofs.Fills.{Turning}
use Rattle.numpy.proofs.units.turned.Given as goal

abbrev pub invariant-loop-i : goal.invariant-loop-i
invariant-loop-i g l = Turning (goal.F-post g l.f) l.fn.zero l.numbers l.i l.out
