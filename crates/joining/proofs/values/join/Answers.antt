-- `joining::values::join` meets its contract. Assumes nothing.
use Rattle.std.proofs.Common.{ap, ◌∙◌}
use Rattle.std.proofs.lemmas.Result.{err_from_is_err_and}
use Rattle.session.specs.declared.Numbers.{Numbers}
use Rattle.session.specs.declared.Session.{Session}
use Rattle.session.specs.Session.{joined}
use Rattle.joining.proofs.Answering.{laid_out, value_served, value_refused}
use Rattle.std.specs.Prelude.{Ok}
use Rattle.joining.proofs.values.join.Goals as goal

pub returns-in_err-join_lent : goal.returns-in_err-join_lent
returns-in_err-join_lent c =
    let a = c.args in
    let p = err_from_is_err_and c.from_residual.result c.from_residual.ensures.1 in
    rw (p.1, p.2) (value_refused _ c.join_lent.ensures.answers c.in_err-join_lent.was ∙ ap (λ (n : Numbers). joined (laid_out a.session n) a.size a.joining.now) c.from-numbers.ensures)

pub returns : goal.returns
returns c =
    let a = c.args in
    ap (λ (s : Session). Ok s) c.put_numbers.ensures
    ∙ value_served _ c.join_lent.ensures c.in_ok-join_lent.was
    ∙ ap (λ (n : Numbers). joined (laid_out a.session n) a.size a.joining.now) c.from-numbers.ensures
