-- The invariants of `as_given_into`.
use mathlib.Core.Path.{◌≡◌}
use lib.ListN.{take}
use Rattle.strided.specs.Base.{run}
use Rattle.order.proofs.as_given_into.Given as goal

abbrev pub invariant-loop-i : goal.invariant-loop-i
invariant-loop-i l = take l.i l.out ≡ run 0 l.i
