-- `states::arrays::begin_on` meets its contract. Assumes nothing.
use Rattle.std.proofs.Common.{sym, ◌∙◌}
use Rattle.std.proofs.lemmas.Result.{err_from_is_err_and}
use Rattle.strided.specs.Memory.{plan_of}
use Rattle.states.proofs.Table.{lent_refused}
use Rattle.states.proofs.arrays.begin_on.Goals as goal

pub returns-in_err-of : goal.returns-in_err-of
returns-in_err-of c =
    let a = c.args in
    let p = err_from_is_err_and c.from_residual.result c.from_residual.ensures.1 in
    rw (p.1, p.2) (lent_refused (plan_of a.rank a.operands a.extents.now a.blocks.now a.strides.now) a.starts.now (sym c.in_err-of.was ∙ c.of.ensures))
