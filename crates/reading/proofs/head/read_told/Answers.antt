-- `reading::head::read_told` meets its contract: a law for each way out: no counts, counts and no line's end, both.
-- Assumes nothing.
use Rattle.reading.proofs.Heads.{told_is, told_open}
use Rattle.reading.proofs.head.read_told.Goals as goal

pub returns-in_err-purpose : goal.returns-in_err-purpose
returns-in_err-purpose g c letter reads =
    rw c.from_residual-in_err-purpose.ensures
    (told_open (c.read_counts.ensures.told _ _ _ c.in_ok-rank.was) ((reads _ _ c.read_chosen.ensures).bad c.in_err-purpose.was))

pub returns : goal.returns
returns g c letter reads =
    told_is (c.read_counts.ensures.told _ _ _ c.in_ok-rank.was) _ _ ((reads _ _ c.read_chosen.ensures).by _ _ c.in_ok-purpose.was)
