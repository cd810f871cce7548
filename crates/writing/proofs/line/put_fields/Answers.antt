-- `writing::line::put_fields` meets its contract: the loop keeps `Doing`: the fields from the index on are left to write.
-- Assumes nothing.
use Rattle.laws.specs.Text.Once.{celled}
use Rattle.writing.proofs.Lines.{each_next}
use Rattle.writing.proofs.Doing.{doing_start}
use Rattle.writing.proofs.line.put_fields.Goals as goal

pub loop-n-init : goal.loop-n-init
loop-n-init g c = doing_start _ _ _ c.requires

pub loop-n-preserved : goal.loop-n-preserved
loop-n-preserved g c =
    let f = celled g.T.Figure.text in
    each_next f c.args.numbers.now c.loop-n.n-index c.loop-n.invariant c.n-item.result c.loop-n-test.true (rw c.n-item.is at c.put_field-next.ensures)
