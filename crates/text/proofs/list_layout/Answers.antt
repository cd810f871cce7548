-- `text::list_layout` meets its contract: rows 1 to 6, then row 13, then the plan is made and listed. Assumes nothing.
use mathlib.Core.Path.{sym, ◌∙◌}
use Rattle.strided.specs.Refusals.{layout_refused, planning_refused}
use Rattle.strided.specs.Machine.{fixed_four}
use Rattle.std.proofs.lemmas.Result.{err_from_is_err_and}
use Rattle.laws.specs.Refusals.Record.{fixed_allowed, planning_fixed}
use Rattle.layout.specs.Checked.{LetThrough}
use Rattle.layout.proofs.Checks.{checked-through, checked_some, through_with}
use Rattle.kernel.proofs.Plans.{through-accepted, through-made}
use Rattle.text.proofs.Listings.{made_printable, made_lent, layout_refused_lem, layout_total, layout_served}
use Rattle.text.proofs.list_layout.Goals as goal
use Rattle.text.proofs.list_layout.Goals.{In_ok-layout}

-- rows 1 to 6 pass
through : (c : In_ok-layout) → let a = c.args in LetThrough (layout_refused a.extents.now a.sizes.now a.strides.now a.purpose) a.extents.now a.sizes.now a.strides.now c.in_ok-layout.layout
through c = let a = c.args in checked-through a.extents.now a.sizes.now a.strides.now c.check_layout.ensures c.in_ok-layout.was

-- and 24 for the fixed four
planning : (c : In_ok-layout) → let a = c.args in LetThrough (planning_refused fixed_four a.extents.now a.sizes.now a.strides.now a.purpose) a.extents.now a.sizes.now a.strides.now c.in_ok-layout.layout
planning c = let a = c.args in through_with (through c) (planning_fixed a.extents.now a.sizes.now a.strides.now a.purpose ∙ (through c).served)

pub returns-in_err-layout : goal.returns-in_err-layout
returns-in_err-layout c =
    let a = c.args in
    let p = err_from_is_err_and c.from_residual.result c.from_residual.ensures.1 in
    rw (p.1, p.2)
    (layout_refused_lem a.extents.now a.sizes.now a.strides.now a.purpose a.room.now _ (checked_some a.extents.now a.sizes.now a.strides.now c.check_layout.ensures c.in_err-layout.was))

pub returns-then-not-total_at_most : goal.returns-then-not-total_at_most
returns-then-not-total_at_most c =
    let a = c.args in
    layout_total a.extents.now a.sizes.now a.strides.now a.purpose a.room.now (through (goal.at.returns-then-not-total_at_most c).In_ok-layout).served
    (sym c.if-not-total_at_most.ensures)

pub plan_into-rank-requires-clause-allowed : goal.plan_into-rank-requires-clause-allowed
plan_into-rank-requires-clause-allowed c = fixed_allowed

pub plan_into-rank-requires-clause-operands : goal.plan_into-rank-requires-clause-operands
plan_into-rank-requires-clause-operands c = (through (goal.at.plan_into-rank-requires-clause-operands c).In_ok-layout).operands

pub plan_into-rank-requires-clause-accepted : goal.plan_into-rank-requires-clause-accepted
plan_into-rank-requires-clause-accepted c =
    let a = c.args in
    through-accepted fixed_four a.extents.now a.sizes.now a.strides.now a.purpose (planning (goal.at.plan_into-rank-requires-clause-accepted c).In_ok-layout)

pub invariant_of-plan : goal.invariant_of-plan
invariant_of-plan c =
    let a = c.args in
    let i = (goal.at.invariant_of-plan c).In_ok-layout in
    made_lent a.extents.now a.sizes.now a.strides.now a.purpose (through i).served _ _ _ _
    (through-made fixed_four a.extents.now a.sizes.now a.strides.now a.purpose (planning i) c.plan_into-rank.ensures)

pub invariant_of-list : goal.invariant_of-list
invariant_of-list c =
    let a = c.args in
    let i = (goal.at.invariant_of-list c).In_ok-layout in
    record {
      printable = made_printable a.extents.now a.sizes.now a.strides.now a.purpose (through i).served _ _ _ _
          (through-made fixed_four a.extents.now a.sizes.now a.strides.now a.purpose (planning i) c.plan_into-rank.ensures);
    }

pub returns : goal.returns
returns c =
    let a = c.args in
    let i = (goal.at.returns c).In_ok-layout in
    c.list.ensures
    ∙ layout_served a.extents.now a.sizes.now a.strides.now a.purpose a.room.now (through i).served
    (sym c.if-not-total_at_most.ensures)
    (through-made fixed_four a.extents.now a.sizes.now a.strides.now a.purpose (planning i) c.plan_into-rank.ensures)
