-- `views::arrays::check_visit` meets its contract: rows 1 and 2 of the layout and of the plan, then the layout's. Assumes nothing.
use mathlib.Core.Path.{sym, ◌∙◌, subst}
use Rattle.std.specs.Prelude.{Option}
use Rattle.strided.specs.declared.Refusal.{Refusal}
use Rattle.layout.specs.Checked.{Checked}
use Rattle.laws.specs.Refusals.Rows.{past_none, past_next, past_some}
use Rattle.views.specs.Visits.{visit_rows, visit_refused}
use Rattle.views.proofs.Answers.{visit_rest}
use Rattle.views.proofs.arrays.check_visit.Goals as goal

pub returns-then-rank_over : goal.returns-then-rank_over
unfolding visit_refused
returns-then-rank_over c =
    let a = c.args in
    past_some (past_none (visit_rows a.extents.now a.sizes.now a.strides.now a.purpose a.rank a.operands)) c.rank_over.ensures c.if-rank_over.true

pub returns-then-rank_over-2 : goal.returns-then-rank_over-2
unfolding visit_refused
returns-then-rank_over-2 c =
    let a = c.args in
    past_some (past_next (past_none (visit_rows a.extents.now a.sizes.now a.strides.now a.purpose a.rank a.operands)) c.rank_over.ensures c.if-rank_over.false)
    c.rank_over-2.ensures c.if-rank_over-2.true

pub returns-then-operands_wrong : goal.returns-then-operands_wrong
unfolding visit_refused
returns-then-operands_wrong c =
    let a = c.args in
    past_some (past_next (past_next (past_none (visit_rows a.extents.now a.sizes.now a.strides.now a.purpose a.rank a.operands)) c.rank_over.ensures c.if-rank_over.false)
    c.rank_over-2.ensures c.if-rank_over-2.false) c.operands_wrong.ensures c.if-operands_wrong.true

pub returns-then-operands_wrong-2 : goal.returns-then-operands_wrong-2
unfolding visit_refused
returns-then-operands_wrong-2 c =
    let a = c.args in
    past_some (past_next (past_next (past_next (past_none (visit_rows a.extents.now a.sizes.now a.strides.now a.purpose a.rank a.operands)) c.rank_over.ensures c.if-rank_over.false)
    c.rank_over-2.ensures c.if-rank_over-2.false) c.operands_wrong.ensures c.if-operands_wrong.false) c.operands_wrong-2.ensures c.if-operands_wrong-2.true

pub returns : goal.returns
returns c =
    let a = c.args in
    subst (λ (o : Option Refusal). Checked o a.extents.now a.sizes.now a.strides.now c.check_layout.result)
    (visit_rest a.extents.now a.sizes.now a.strides.now a.purpose a.rank a.operands
    (sym c.rank_over-2.ensures ∙ c.if-rank_over-2.false) (sym c.operands_wrong-2.ensures ∙ c.if-operands_wrong-2.false))
    c.check_layout.ensures
