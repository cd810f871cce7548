-- The invariant of `few::holds`.
use Rattle.distinct.specs.Lists.{Looked}
use Rattle.distinct.proofs.few.holds.Given as goal

-- what the places before this one answer
abbrev pub invariant-loop-y : goal.invariant-loop-y
invariant-loop-y l = Looked l.list l.y-index l.x l.found
