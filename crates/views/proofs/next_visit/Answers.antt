-- `views::next_visit` meets its contract. Assumes nothing.
use Rattle.std.proofs.Common.{sym, ◌∙◌}
use Rattle.std.proofs.lemmas.Result.{err_from_is_err_and}
use Rattle.views.proofs.Answers.{lend_refused, value-first}
use Rattle.views.proofs.next_visit.Goals as goal

pub returns-in_err-lent : goal.returns-in_err-lent
returns-in_err-lent c =
    let a = c.args in
    let p = err_from_is_err_and c.from_residual.result c.from_residual.ensures.1 in
    rw (p.1, p.2) (value-first a.extents.now a.sizes.now a.strides.now a.purpose a.plan a.walk (lend_refused a.extents.now a.sizes.now a.strides.now a.purpose a.plan (sym c.in_err-lent.was ∙ c.lend.ensures)))
