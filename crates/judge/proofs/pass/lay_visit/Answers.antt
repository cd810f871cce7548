-- `judge::pass::lay_visit` meets its contract: the index is read back from the array, and its run stays in the buffer.
-- Assumes nothing.
use borrow.Author.Rules.{rules}
use Rattle.judge.proofs.Passing.{lay_within, lay_nozero, lay_axis, lay_below, lays_to}
use Rattle.judge.proofs.pass.lay_visit.Goals as goal

pub place_of-from-requires : goal.place_of-from-requires
place_of-from-requires c =
    lay_within c.args.cells.extents.now c.read_visit.ensures c.in_ok-run.was c.args.cells.few (search rules) c.requires.1

pub step_at-step-requires : goal.step_at-step-requires
step_at-step-requires c =
    (lay_nozero c.args.cells.extents.now c.read_visit.ensures c.in_ok-run.was c.args.cells.few (search rules) c.requires.1, lay_axis c.args.cells.extents.now c.read_visit.ensures c.in_ok-run.was c.args.cells.few (search rules) c.requires.1)

pub lay_run-requires : goal.lay_run-requires
lay_run-requires c =
    lay_below c.args.cells.extents.now c.read_visit.ensures c.in_ok-run.was c.args.cells.few (search rules) c.requires.1 c.args.marks.now c.requires.0 c.place_of-from.ensures c.step_at-step.ensures

pub returns : goal.returns
returns c =
    lays_to c.args.cells.extents.now c.read_visit.ensures c.in_ok-run.was c.args.cells.few (search rules) c.requires.1 c.args.marks.now c.requires.0 c.place_of-from.ensures c.step_at-step.ensures c.lay_run.ensures.0 c.lay_run.ensures.1
