-- `reading::number::read_i64` meets its contract: a law for each way out: with and without `-`, a size or none, in its range or not.
-- Assumes nothing.
use Rattle.reading.proofs.Signs.{minus_reads, minus_out, minus_none, plus_reads, plus_out}
use Rattle.reading.proofs.number.read_i64.Goals as goal

pub returns-in_err-n-in-Some : goal.returns-in_err-n-in-Some
returns-in_err-n-in-Some c =
    rw c.from_residual.ensures (minus_none (c.behind.ensures.to _ c.in-Some.is) (c.read_u64.ensures.bad c.in_err-n-in-Some.was))

pub returns-in_err-minus-in-Some : goal.returns-in_err-minus-in-Some
returns-in_err-minus-in-Some c =
    rw c.from_residual-in_err-minus-in-Some.ensures
    (minus_out (c.behind.ensures.to _ c.in-Some.is) (c.read_u64.ensures.value _ _ c.in_ok-n-in-Some.was) c.in_err-minus-in-Some.ensures)

pub returns-in_ok-minus-in-Some : goal.returns-in_ok-minus-in-Some
returns-in_ok-minus-in-Some c =
    minus_reads (c.behind.ensures.to _ c.in-Some.is) (c.read_u64.ensures.value _ _ c.in_ok-n-in-Some.was) c.in_ok-minus-in-Some.ensures

pub returns-in_err-plus-in-None : goal.returns-in_err-plus-in-None
returns-in_err-plus-in-None c =
    rw c.from_residual-in_err-plus-in-None.ensures
    (plus_out (c.behind.ensures.bad c.in-None.is) (c.read_u64-in-None.ensures.value _ _ c.in_ok-n-in-None.was) c.in_err-plus-in-None.ensures)

pub returns-in_ok-plus-in-None : goal.returns-in_ok-plus-in-None
returns-in_ok-plus-in-None c =
    plus_reads (c.read_u64-in-None.ensures.value _ _ c.in_ok-n-in-None.was) c.in_ok-plus-in-None.ensures
