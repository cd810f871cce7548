-- `export::rows::outside_at` meets its contract: planning's rows let the reach of each operand through. Assumes nothing.
use Rattle.export.proofs.Tests.{served_spans}
use Rattle.export.proofs.rows.outside_at.Goals as goal

pub cell_outside-requires : goal.cell_outside-requires
cell_outside-requires c = rw c.row.ensures (served_spans _ _ _ _ _ c.args.asked.served c.args.k c.requires.0)
