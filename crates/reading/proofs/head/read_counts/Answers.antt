-- `reading::head::read_counts` meets its contract: a law for each way out: no field, one, two.
-- Assumes nothing.
use Rattle.reading.proofs.Heads.{counts-told, counts_open}
use Rattle.reading.proofs.head.read_counts.Goals as goal

pub returns-in_err-second : goal.returns-in_err-second
returns-in_err-second c =
    rw c.from_residual-in_err-second.ensures (counts_open (c.field.ensures.value _ _ c.in_ok-first.was) (c.field-2.ensures.bad c.in_err-second.was))

pub returns : goal.returns
returns c = counts-told (c.field.ensures.value _ _ c.in_ok-first.was) _ _ (c.field-2.ensures.value _ _ c.in_ok-second.was)
