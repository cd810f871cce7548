-- `reading::row::read_row_from` meets its contract: the loop keeps `Rowing`: whoever reads what is left of the row has read the row. Each
-- number takes bytes, so `from + i` does not wrap.
-- Assumes nothing.
use Rattle.reading.proofs.Rows.{rowing_turn, rowing_bad}
use Rattle.reading.proofs.row.read_row_from.Goals as goal

pub returns-in_err-v : goal.returns-in_err-v
returns-in_err-v g c =
    let m = g.T.Number in
    rw c.from_residual.ensures (rowing_bad m.text m.fits c.loop-i.invariant c.loop-i-test.true (c.field.ensures.bad c.in_err-v.was))

pub loop-i-preserved : goal.loop-i-preserved
loop-i-preserved g c =
    let m = g.T.Number in
    rw c.keep.ensures (rowing_turn m.text m.fits c.loop-i.invariant g.met.T.Number.once c.loop-i-test.true (c.field.ensures.value _ _ c.in_ok-v.was))
