-- `parts::plans::parts_plan` meets its contract. Assumes nothing.
use Rattle.std.specs.Prelude.{◌≡◌}
use Rattle.std.proofs.Common.{sym, ap, ◌∙◌}
use Rattle.strided.specs.Machine.{machine_of}
use Rattle.strided.specs.Plan.{planned}
use Rattle.strided.specs.Memory.{plan_memory, purpose_of}
use Rattle.laws.specs.Plan.Answers.{not-refused, planned_is}
use Rattle.parts.proofs.Laws.{some-refused, none_served, plan_refused}
use Rattle.parts.proofs.plans.parts_plan.Goals as goal
use Rattle.parts.proofs.plans.parts_plan.Goals.{After-plan}

-- what was returned
made : (c : After-plan) → let a = c.args in c.plan.result ≡ planned (machine_of a.line a.cache a.way a.live) a.extents.now a.sizes.now a.strides.now (purpose_of a.kind a.chosen)
made c = let a = c.args in c.plan.ensures ∙ ap (planned (machine_of a.line a.cache a.way a.live) a.extents.now a.sizes.now a.strides.now) c.purpose_of.ensures

pub returns-in-Err : goal.returns-in-Err
returns-in-Err c =
    let a = c.args in
    let m = machine_of a.line a.cache a.way a.live in
    let is = sym (made (goal.at.returns-in-Err c).After-plan) ∙ c.in-Err.is in
    some-refused _ (plan_refused m a.extents.now a.sizes.now a.strides.now (purpose_of a.kind a.chosen) is) c.number.ensures

pub returns : goal.returns
returns c =
    let a = c.args in
    let m = machine_of a.line a.cache a.way a.live in
    let is = sym (made (goal.at.returns c).After-plan) ∙ c.in-Ok.is in
    none_served _ (not-refused m a.extents.now a.sizes.now a.strides.now (purpose_of a.kind a.chosen) is) (ap plan_memory (planned_is m a.extents.now a.sizes.now a.strides.now (purpose_of a.kind a.chosen) is))
