-- `text::list_numbers` meets its contract: rows 1 and 2 of the counts, then the layout in the counted places. Assumes nothing.
use mathlib.Core.Path.{sym, ◌∙◌}
use Rattle.text.proofs.Listings.{numbers-rank, numbers_operands, numbers_layout}
use Rattle.text.proofs.list_numbers.Goals as goal

pub returns-then-rank_over : goal.returns-then-rank_over
returns-then-rank_over c =
    let a = c.args in
    numbers-rank a.said.rank a.said.operands a.extents.now a.sizes.now a.strides.now a.said.purpose a.room.now
    (sym c.rank_over.ensures ∙ c.if-rank_over.true)

pub returns-then-operands_wrong : goal.returns-then-operands_wrong
returns-then-operands_wrong c =
    let a = c.args in
    numbers_operands a.said.rank a.said.operands a.extents.now a.sizes.now a.strides.now a.said.purpose a.room.now
    (sym c.rank_over.ensures ∙ c.if-rank_over.false)
    (sym c.operands_wrong.ensures ∙ c.if-operands_wrong.true)

pub returns : goal.returns
returns c =
    let a = c.args in
    c.list_layout.ensures
    ∙ numbers_layout a.said.rank a.said.operands a.extents.now a.sizes.now a.strides.now a.said.purpose a.room.now
    (sym c.rank_over.ensures ∙ c.if-rank_over.false)
    (sym c.operands_wrong.ensures ∙ c.if-operands_wrong.false)
