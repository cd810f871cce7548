-- `numpy::lines::read_head` meets its contract: a law for each way out: all, no line's end, no numbers, another letter.
-- Assumes nothing.
use Rattle.numpy.proofs.Forms.{head_end}
use Rattle.numpy.proofs.lines.read_head.Goals as goal

pub returns-in_err-rest : goal.returns-in_err-rest
returns-in_err-rest c =
    rw c.from_residual-in_err-rest.ensures
    (head_end (c.behind.ensures.to _ c.in_ok-behind.was) c.read_counts.ensures c.in_ok-size.was (c.behind-2.ensures.bad c.in_err-rest.was))
