-- `joining::layouts::add_row` meets its contract. Assumes nothing.
use Rattle.joining.proofs.Laying.{row-added}
use mathlib.Core.Path.{ap, ◌∙◌}
use lib.ListN.{set, replicate}
use Rattle.joining.proofs.layouts.add_row.Goals as goal

pub returns : goal.returns
returns c =
    let a = c.args in
    let p = c.requires in
    ap (set a.table.now a.operands) c.index_order_into.ensures ∙ row-added 8 (replicate 64 0) a.table.now a.operands p.table_value p.operands_bound _
