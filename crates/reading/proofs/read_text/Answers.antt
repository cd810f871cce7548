-- `reading::read_text` meets its contract: a law for each way out: too long, no L line, other lines wrong, all there.
-- Assumes nothing.
use Rattle.reading.proofs.Texts.{text_open, text_told}
use Rattle.reading.proofs.read_text.Goals as goal

pub returns-in_err-read_lines : goal.returns-in_err-read_lines
returns-in_err-read_lines c =
    rw c.from_residual-in_err-read_lines.ensures (text_open (c.read_head.ensures.told _ _ c.in_ok-said.was) c.read_lines.ensures c.in_err-read_lines.was)

pub returns : goal.returns
returns c = text_told (c.read_head.ensures.told _ _ c.in_ok-said.was) c.read_lines.ensures c.if-text-gt-MAX_TEXT.false c.in_ok-read_lines.was
