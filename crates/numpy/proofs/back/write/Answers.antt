-- `numpy::back::write` meets its contract: what is written from the first byte on is the text.
-- Assumes nothing.
use Rattle.numpy.proofs.Spelling.{written}
use Rattle.numpy.proofs.back.write.Goals as goal

pub returns : goal.returns
returns c = written _ _ _ _ c.put_text.ensures
