-- `layout::rows::total_over` meets its contract: a zero extent makes the total 0, so the total alone decides. Assumes nothing.
use Rattle.std.proofs.Common.{sym, ◌∙◌}
use Rattle.strided.specs.Layout.{total}
use Rattle.laws.specs.Refusals.Zeros.{row5-total}
use Rattle.layout.proofs.Totals.{none_held}
use Rattle.layout.proofs.rows.total_over.Goals as goal

pub returns : goal.returns
returns c = none_held (total c.args.extents.now) _ _ c.total_len.ensures c.is_none.ensures ∙ sym (row5-total c.args.extents.now)
