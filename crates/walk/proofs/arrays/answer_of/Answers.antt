-- `walk::arrays::answer_of` meets its contract: what rows 1 and 2 refuse, the step refuses. Assumes nothing.
use Rattle.std.proofs.Common.{sym, ◌∙◌}
use Rattle.std.proofs.lemmas.Result.{err_from_is_err_and}
use Rattle.strided.specs.Memory.{plan_of, walk_of}
use Rattle.walk.proofs.Stepping.{lent_refused}
use Rattle.walk.proofs.arrays.answer_of.Goals as goal

pub returns-in_err-of : goal.returns-in_err-of
returns-in_err-of c =
    let a = c.args in
    let p = err_from_is_err_and c.from_residual.result c.from_residual.ensures.1 in
    rw (p.1, p.2) (lent_refused (plan_of a.rank a.operands a.extents.now a.blocks.now a.strides.now) (walk_of a.ended a.counters.now a.offsets.now) (sym c.in_err-of.was ∙ c.of.ensures))
