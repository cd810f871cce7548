-- The invariants of `visits::summary_on`.
use mathlib.Core.List.{[], ◌∷◌}
use Rattle.walker.proofs.Left.{left_at}
use Rattle.summary.proofs.Summing.{Summing}
use Rattle.summary.proofs.visits.summary_on.Given as goal

abbrev pub invariant-loop-more : goal.invariant-loop-more
invariant-loop-more l = Summing l.plan l.start l.cells l.course.way l.course.tiling.widths l.more l.sum l.at

abbrev pub decreases-loop-more : goal.decreases-loop-more
decreases-loop-more l = left_at l.plan (l.start ∷ []) l.more l.at
