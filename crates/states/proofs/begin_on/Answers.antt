-- `states::begin_on` meets its contract. Assumes nothing.
use Rattle.std.proofs.Common.{sym, ◌∙◌}
use Rattle.std.proofs.lemmas.Result.{err_from_is_err_and}
use Rattle.states.proofs.Table.{begun-refused, served_starts, begun_served}
use Rattle.states.proofs.begin_on.Goals as goal

pub returns-in_err-check_begin : goal.returns-in_err-check_begin
returns-in_err-check_begin c =
    let a = c.args in
    let p = err_from_is_err_and c.from_residual.result c.from_residual.ensures.1 in
    rw (p.1, p.2) (begun-refused a.plan.now a.starts.now (sym c.in_err-check_begin.was ∙ c.check_begin.ensures))

pub offsets_of-requires : goal.offsets_of-requires
offsets_of-requires c =
    served_starts c.args.plan.now c.args.starts.now (sym c.in_ok-check_begin.was ∙ c.check_begin.ensures)

pub returns : goal.returns
returns c =
    begun_served c.args.plan.now c.args.starts.now (sym c.in_ok-check_begin.was ∙ c.check_begin.ensures) c.no_block.ensures c.offsets_of.ensures
