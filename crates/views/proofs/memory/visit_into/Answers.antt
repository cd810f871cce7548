-- `views::memory::visit_into` meets its contract. Assumes nothing.
use Rattle.std.proofs.Common.{sym, ap, ◌∙◌}
use Rattle.std.proofs.lemmas.Result.{err_from_is_err_and}
use Rattle.std.specs.Prelude.{Ok}
use Rattle.strided.specs.Step.{stepped}
use Rattle.layout.specs.Checked.{LetThrough}
use Rattle.layout.proofs.Checks.{checked-through, checked_some}
use Rattle.finding.proofs.Answers.{cells-few}
use Rattle.walk.proofs.Stepping.{answers_at, running}
use Rattle.views.specs.Visits.{visit_refused}
use Rattle.views.proofs.Answers.{visit_through, entry_refused, entry_state, entry_ended, entry_block}
use Rattle.views.proofs.memory.visit_into.Goals as goal
use Rattle.views.proofs.memory.visit_into.Goals.{In_ok-layout}

-- the rows of a visit let the layout through
through : (c : In_ok-layout) → let a = c.args in LetThrough (visit_refused a.extents.now a.sizes.now a.strides.now a.purpose a.plan.now.rank a.plan.now.operands) a.extents.now a.sizes.now a.strides.now c.in_ok-layout.layout
through c =
    let a = c.args in
    checked-through a.extents.now a.sizes.now a.strides.now c.check_visit.ensures c.in_ok-layout.was

pub returns-in_err-layout : goal.returns-in_err-layout
returns-in_err-layout c =
    let a = c.args in
    let p = err_from_is_err_and c.from_residual.result c.from_residual.ensures.1 in
    rw (p.1, p.2) (entry_refused a.extents.now a.sizes.now a.strides.now a.purpose a.plan.now _
    (checked_some a.extents.now a.sizes.now a.strides.now c.check_visit.ensures c.in_err-layout.was))

pub returns-in_err-answer_of : goal.returns-in_err-answer_of
returns-in_err-answer_of c =
    let a = c.args in
    let l = through (goal.at.returns-in_err-answer_of c).In_ok-layout in
    let p = err_from_is_err_and c.from_residual-in_err-answer_of.result c.from_residual-in_err-answer_of.ensures.1 in
    rw (p.1, p.2) (entry_state a.extents.now a.sizes.now a.strides.now a.purpose a.plan.now _ l (answers_at _ _ c.answer_of.ensures c.in_err-answer_of.was))

pub found_into-requires-clause-total : goal.found_into-requires-clause-total
found_into-requires-clause-total c =
    let a = c.args in
    let l = through (goal.at.found_into-requires-clause-total c).In_ok-layout in
    cells-few a.extents.now a.sizes.now a.strides.now a.purpose (visit_through a.extents.now a.sizes.now a.strides.now a.purpose _ _ l)

pub returns-then-branch : goal.returns-then-branch
returns-then-branch c =
    let a = c.args in
    let l = through (goal.at.returns-then-branch c).In_ok-layout in
    let k = answers_at _ _ c.answer_of.ensures (c.in_ok-answer_of.was ∙ ap Ok c.if-branch.true) in
    entry_block a.extents.now a.sizes.now a.strides.now a.purpose a.plan.now _ l (ap (stepped a.plan.now) (sym (running _ k.1))) c.found_into.ensures

pub returns : goal.returns
returns c =
    let a = c.args in
    let l = through (goal.at.returns c).In_ok-layout in
    entry_ended a.extents.now a.sizes.now a.strides.now a.purpose a.plan.now _ l (answers_at _ _ c.answer_of.ensures (c.in_ok-answer_of.was ∙ ap Ok c.if-branch.false))
