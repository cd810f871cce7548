-- `reading::line::read_size` meets its contract: `O` in front of a field.
-- Assumes nothing.
use Rattle.strided.specs.Text.{FitU, field}
use Rattle.reading.proofs.Answers.{front_finds}
use Rattle.reading.proofs.line.read_size.Goals as goal

pub returns : goal.returns
returns c = front_finds 79 field FitU (c.behind.ensures.to _ c.in_ok-behind.was) c.field.ensures
