-- `gougelily::walks::gougelily_begin` meets its contract. Assumes nothing.
use Rattle.std.proofs.Common.{◌≡◌, sym, ◌∙◌, refl, subst}
use Rattle.strided.specs.Begin.{begun_at}
use Rattle.strided.specs.Memory.{plan_of, walk_memory}
use Rattle.strided.specs.declared.Plan.{Plan}
use Rattle.laws.specs.Refusals.Rows.{served_is}
use Rattle.states.proofs.Table.{lent_refused}
use Rattle.gougelily.proofs.Answers.{handed-refused, handed_served, read_code}
use Rattle.gougelily.proofs.walks.gougelily_begin.Goals as goal
use Rattle.gougelily.proofs.walks.gougelily_begin.Goals.{After-begin_on}

-- a walk of the plan that is lent is one of the plan
begins : (c : After-begin_on) → let a = c.args in c.begin_on.result ≡ begun_at (plan_of a.rank a.operands a.extents.now a.blocks.now a.strides.now) a.starts.now
begins c =
    let a = c.args in
    subst (λ (p : Plan). c.begin_on.result ≡ begun_at p a.starts.now)
    (served_is _ (plan_of a.rank a.operands a.extents.now a.blocks.now a.strides.now) (sym c.of.ensures ∙ c.in-Ok.is)) c.begin_on.ensures

-- the plan is not lent
pub returns-in-Err : goal.returns-in-Err
returns-in-Err c =
    let a = c.args in
    handed-refused walk_memory
    (lent_refused (plan_of a.rank a.operands a.extents.now a.blocks.now a.strides.now) a.starts.now (sym c.in-Err.is ∙ c.of.ensures))
    refl (read_code c.negated.type_inv c.negated.ensures)

pub returns-in-Err-begin_on : goal.returns-in-Err-begin_on
returns-in-Err-begin_on c =
    handed-refused walk_memory (begins (goal.at.returns-in-Err-begin_on c).After-begin_on) c.in-Err-begin_on.is
    (read_code c.negated-in-Err-begin_on.type_inv c.negated-in-Err-begin_on.ensures)

pub returns : goal.returns
returns c = handed_served walk_memory (begins (goal.at.returns c).After-begin_on) c.in-Ok-begin_on.is c.put_walk.ensures
