-- `numpy::lines::read_description` meets its contract: a law for each way out.
-- Assumes nothing.
use Rattle.numpy.proofs.Forms.{text_lines}
use Rattle.numpy.proofs.lines.read_description.Goals as goal

pub returns : goal.returns
returns c = text_lines c.if-s-gt-MAX_TEXT.false (c.read_head.ensures.told _ _ _ c.in_ok-size.was) c.read_lines.ensures
