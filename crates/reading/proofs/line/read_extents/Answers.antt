-- `reading::line::read_extents` meets its contract: `E` in front of a row.
-- Assumes nothing.
use Rattle.reading.proofs.Lines.{extents_reads}
use Rattle.reading.proofs.line.read_extents.Goals as goal

pub returns : goal.returns
returns c =
    extents_reads (c.behind.ensures.to _ c.in_ok-behind.was) c.read_row.ensures
