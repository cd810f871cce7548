-- The invariants of `row::read_row_from`.
use Rattle.reading.proofs.Rows.{Rowing}
use Rattle.reading.proofs.row.read_row_from.Given as goal

abbrev pub invariant-loop-i : goal.invariant-loop-i
invariant-loop-i g l = let m = g.T.Number in Rowing m.text m.fits l.s l.count l.from l.initial.out l.out l.rest l.i
