-- `gougelily::plans::gougelily_plan` meets its contract: what is made where rows 1 to 6 and 24 pass, and every lent byte kept where one applies.
-- Assumes nothing.
use mathlib.Core.Path.{refl, sym}
use Rattle.strided.specs.Machine.{machine_of}
use Rattle.strided.specs.Plan.{planned}
use Rattle.strided.specs.Refusals.{planning_refused}
use Rattle.strided.specs.Memory.{plan_memory}
use Rattle.laws.specs.Refusals.Record.{planning_allowed}
use Rattle.layout.specs.Checked.{LetThrough}
use Rattle.layout.proofs.Checks.{checked-through, checked_some}
use Rattle.laws.specs.Plan.Answers.{planned-refused}
use Rattle.kernel.proofs.Plans.{serves, through-accepted, through-made}
use Rattle.gougelily.proofs.Answers.{called, handed-refused, handed_served, read_code}
use Rattle.gougelily.proofs.plans.gougelily_plan.Goals as goal
use Rattle.gougelily.proofs.plans.gougelily_plan.Goals.{In-Ok}

-- rows 1 to 6 and 24 let the layout through
through : (c : In-Ok) → let a = c.args in LetThrough (planning_refused (machine_of a.line a.cache a.way a.live) a.extents.now a.sizes.now a.strides.now c.purpose_of-wanted.result) a.extents.now a.sizes.now a.strides.now c.in-Ok.value
through c = let a = c.args in checked-through a.extents.now a.sizes.now a.strides.now c.check_planning.ensures c.in-Ok.is

pub plan_into-axes-requires : goal.plan_into-axes-requires
plan_into-axes-requires c =
    let a = c.args in
    let mc = machine_of a.line a.cache a.way a.live in
    let u = c.purpose_of-wanted.result in
    let l = through (goal.at.plan_into-axes-requires c).In-Ok in
    record { operands = l.operands; allowed = planning_allowed mc a.extents.now a.sizes.now a.strides.now u l.served; accepted = through-accepted mc a.extents.now a.sizes.now a.strides.now u l; zeros = c.clear_axes.ensures }

pub returns-in-Err : goal.returns-in-Err
returns-in-Err c =
    let a = c.args in
    handed-refused plan_memory
    (called (planned (machine_of a.line a.cache a.way a.live) a.extents.now a.sizes.now a.strides.now)
    (sym (planned-refused (machine_of a.line a.cache a.way a.live) a.extents.now a.sizes.now a.strides.now c.purpose_of-wanted.result _ (checked_some a.extents.now a.sizes.now a.strides.now c.check_planning.ensures c.in-Err.is)))
    c.purpose_of-wanted.ensures)
    refl (read_code c.negated.type_inv c.negated.ensures)

pub returns : goal.returns
returns c =
    let a = c.args in
    let mc = machine_of a.line a.cache a.way a.live in
    let u = c.purpose_of-wanted.result in
    let l = through (goal.at.returns c).In-Ok in
    handed_served plan_memory
    (called (planned mc a.extents.now a.sizes.now a.strides.now)
    (serves mc a.extents.now a.sizes.now a.strides.now u l.served _ _ _ _ (through-made mc a.extents.now a.sizes.now a.strides.now u l c.plan_into-axes.ensures))
    c.purpose_of-wanted.ensures)
    refl refl
