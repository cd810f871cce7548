-- `views::arrays::visit_into` meets its contract: where rows 1 and 2 refuse, nothing is written. Assumes nothing.
use Rattle.std.proofs.Common.{sym, ◌∙◌}
use Rattle.std.proofs.lemmas.Result.{err_from_is_err_and}
use Rattle.strided.specs.Memory.{plan_of}
use Rattle.views.proofs.Answers.{lend_refused, entry_refused}
use Rattle.views.proofs.arrays.visit_into.Goals as goal

pub returns-in_err-plan : goal.returns-in_err-plan
returns-in_err-plan c =
    let a = c.args in
    let v = plan_of a.rank a.operands a.plan_extents.now a.blocks.now a.plan_strides.now in
    let p = err_from_is_err_and c.from_residual.result c.from_residual.ensures.1 in
    rw (p.1, p.2) (entry_refused a.extents.now a.sizes.now a.strides.now a.purpose v _
    (lend_refused a.extents.now a.sizes.now a.strides.now a.purpose v (sym c.in_err-plan.was ∙ c.lend.ensures)))
