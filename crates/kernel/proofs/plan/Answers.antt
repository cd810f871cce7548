-- `kernel::plan` meets its contract: what is made where rows 1 to 6 and 24 pass, and the refusal where one applies. Assumes nothing.
use Rattle.std.proofs.Common.{refl, sym}
use Rattle.std.proofs.lemmas.Result.{err_from_is_err_and}
use Rattle.strided.specs.Refusals.{planning_refused}
use Rattle.laws.specs.Refusals.Record.{planning_allowed}
use Rattle.laws.specs.Plan.Answers.{planned-refused}
use Rattle.layout.specs.Checked.{LetThrough}
use Rattle.layout.proofs.Checks.{checked-through, checked_some}
use Rattle.kernel.proofs.Plans.{serves, through-accepted, through-made}
use Rattle.kernel.proofs.plan.Goals as goal
use Rattle.kernel.proofs.plan.Goals.{In_ok-layout}

pub returns-in_err-layout : goal.returns-in_err-layout
returns-in_err-layout c =
    let a = c.args in
    let p = err_from_is_err_and c.from_residual.result c.from_residual.ensures.1 in
    rw (p.1, p.2) (sym (planned-refused a.machine a.extents.now a.sizes.now a.strides.now a.purpose _
    (checked_some a.extents.now a.sizes.now a.strides.now c.check_planning.ensures c.in_err-layout.was)))

-- rows 1 to 6 and 24 let the layout through
through : (c : In_ok-layout) → let a = c.args in LetThrough (planning_refused a.machine a.extents.now a.sizes.now a.strides.now a.purpose) a.extents.now a.sizes.now a.strides.now c.in_ok-layout.layout
through c = let a = c.args in checked-through a.extents.now a.sizes.now a.strides.now c.check_planning.ensures c.in_ok-layout.was

pub plan_into-rank-requires : goal.plan_into-rank-requires
plan_into-rank-requires c =
    let a = c.args in
    let l = through (goal.at.plan_into-rank-requires c).In_ok-layout in
    record { operands = l.operands; allowed = planning_allowed a.machine a.extents.now a.sizes.now a.strides.now a.purpose l.served; accepted = through-accepted a.machine a.extents.now a.sizes.now a.strides.now a.purpose l; zeros = record { extents = refl; strides = refl } }

pub returns : goal.returns
returns c =
    let a = c.args in
    let l = through (goal.at.returns c).In_ok-layout in
    serves a.machine a.extents.now a.sizes.now a.strides.now a.purpose l.served _ _ _ _ (through-made a.machine a.extents.now a.sizes.now a.strides.now a.purpose l c.plan_into-rank.ensures)
