-- `summary::run::with_blocks` meets its contract: runs of no cells meet none. Assumes nothing.
use Rattle.summary.proofs.Meeting.{none_met}
use Rattle.summary.proofs.run.with_blocks.Goals as goal

pub returns-then-rows-eq0 : goal.returns-then-rows-eq0
returns-then-rows-eq0 c =
    let a = c.args in
    none_met a.cells.now a.s a.rows.first a.rows.by a.rows.count a.rows.stride c.if-rows-eq0.true
