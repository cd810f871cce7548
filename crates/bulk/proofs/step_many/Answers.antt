-- `bulk::step_many` meets its contract. Assumes nothing.
use Rattle.std.proofs.Common.{refl, sym, ◌∙◌}
use Rattle.std.proofs.lemmas.Result.{err_from_is_err_and}
use Rattle.walk.proofs.Stepping.{lent_refused}
use Rattle.bulk.proofs.Ways.{still}
use Rattle.bulk.proofs.step_many.Goals as goal

pub returns-in_err-try_from : goal.returns-in_err-try_from
returns-in_err-try_from c =
    let p = err_from_is_err_and c.from_residual.result c.from_residual.ensures.1 in
    rw (p.1, p.2) (still _ _ _ _ (lent_refused c.args.plan c.args.walk (sym c.in_err-try_from.was ∙ c.try_from.ensures)) refl)
