-- `walk::arrays::step_into` meets its contract: where rows 1 and 2 refuse, nothing is written. Assumes nothing.
use Rattle.std.proofs.Common.{sym, ◌∙◌}
use Rattle.std.proofs.lemmas.Result.{err_from_is_err_and}
use Rattle.strided.specs.Memory.{plan_of, walk_at, walk_in}
use Rattle.walk.proofs.Answered.{stepped_refused}
use Rattle.walk.proofs.Stepping.{lent_refused}
use Rattle.walk.proofs.arrays.step_into.Goals as goal

pub returns-in_err-plan : goal.returns-in_err-plan
returns-in_err-plan c =
    let a = c.args in
    let p = err_from_is_err_and c.from_residual.result c.from_residual.ensures.1 in
    rw (p.1, p.2) (stepped_refused (lent_refused (plan_of a.rank a.operands a.extents.now a.blocks.now a.strides.now) (walk_in (walk_at a.ended.now a.counters.now a.offsets.now)) (sym c.in_err-plan.was ∙ c.of.ensures)))
