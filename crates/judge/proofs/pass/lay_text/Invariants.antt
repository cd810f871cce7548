-- The invariants of `pass::lay_text`.
use mathlib.Core.Path.{◌≡◌}
use lib.ListN.{length}
use Rattle.strided.specs.Layout.{total}
use Rattle.judge.proofs.Passing.{Onward}
use Rattle.judge.proofs.pass.lay_text.Given as goal

abbrev pub invariant-loop-rest : goal.invariant-loop-rest
invariant-loop-rest l = (length l.marks ≡ total l.cells.extents.now) × (Onward l.cells.extents.now l.text l.marks l.again l.rest)

abbrev pub decreases-loop-rest : goal.decreases-loop-rest
decreases-loop-rest l = length l.rest
