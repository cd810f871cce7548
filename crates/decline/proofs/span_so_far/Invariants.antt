-- The invariants of `span_so_far`.
use mathlib.Core.Path.{◌≡◌}
use Rattle.decline.specs.Slabs.{span_to}
use Rattle.decline.proofs.span_so_far.Given as goal

abbrev pub invariant-loop-j : goal.invariant-loop-j
invariant-loop-j l = (l.s ≡ span_to l.j l.slabs.operand.axes l.slabs.operand.k l.slabs.cut l.slabs.width l.i)
