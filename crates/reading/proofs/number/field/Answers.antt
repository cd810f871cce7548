-- `reading::number::field` meets its contract: a comma in front of a number.
-- Assumes nothing.
use Rattle.reading.proofs.Answers.{front_finds}
use Rattle.reading.proofs.number.field.Goals as goal

pub returns : goal.returns
returns g c = let m = g.T.Number in front_finds 44 m.text m.fits (c.behind.ensures.to _ c.in_ok-behind.was) c.read.ensures
