-- `reading::head::read_last` meets its contract: a law for each way out: no field, a field that does not end the line, one that does.
-- Assumes nothing.
use Rattle.reading.proofs.Heads.{last_open}
use Rattle.reading.proofs.head.read_last.Goals as goal

pub returns-in_err-behind : goal.returns-in_err-behind
returns-in_err-behind c =
    rw c.from_residual-in_err-behind.ensures (last_open (c.field.ensures.value _ _ c.in_ok-k.was) (c.behind.ensures.bad c.in_err-behind.was))
