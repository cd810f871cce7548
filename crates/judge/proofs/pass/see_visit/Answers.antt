-- `judge::pass::see_visit` meets its contract: the index is read back from the array.
-- Assumes nothing.
use borrow.Author.Rules.{rules}
use mathlib.Core.Path.{ap}
use mathlib.Core.Bool.{not}
use Rattle.judge.proofs.Passing.{sees_to}
use Rattle.judge.proofs.pass.see_visit.Goals as goal

pub returns : goal.returns
returns c =
    sees_to c.args.cells.extents.now c.read_visit.ensures c.in_ok-run.was c.args.cells.few (search rules) _ (ap not c.stays-inside.ensures)
