-- `judge::line::read_front` meets its contract.
-- Assumes nothing.
use Rattle.judge.proofs.Fronts.{front_reads}
use Rattle.judge.proofs.line.read_front.Goals as goal

pub returns : goal.returns
returns c = front_reads (c.behind.ensures.to _ c.in_ok-behind.was) c.read_counts.ensures c.in_ok-axis.was
