-- The invariants of `cells::Cells::step_at`.
use mathlib.Core.Path.{◌≡◌}
use Rattle.judge.specs.Laying.{step_of}
use Rattle.judge.proofs.cells.Cells.step_at.Given as goal

abbrev pub invariant-loop-extent : goal.invariant-loop-extent
invariant-loop-extent l = l.step ≡ step_of l.self.extents.now l.extent-index
