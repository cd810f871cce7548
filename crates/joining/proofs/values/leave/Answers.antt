-- `joining::values::leave` meets its contract. Assumes nothing.
use Rattle.std.proofs.Common.{ap, ◌∙◌}
use Rattle.std.proofs.lemmas.Result.{err_from_is_err_and}
use Rattle.session.specs.declared.Numbers.{Numbers}
use Rattle.session.specs.declared.Session.{Session}
use Rattle.session.specs.Session.{left}
use Rattle.joining.proofs.Answering.{laid_out, value_served, value_refused}
use Rattle.std.specs.Prelude.{Ok}
use Rattle.joining.proofs.values.leave.Goals as goal

pub returns-in_err-leave_lent : goal.returns-in_err-leave_lent
returns-in_err-leave_lent c =
    let a = c.args in
    let p = err_from_is_err_and c.from_residual.result c.from_residual.ensures.1 in
    rw (p.1, p.2) (value_refused _ c.leave_lent.ensures.answers c.in_err-leave_lent.was ∙ ap (λ (n : Numbers). left (laid_out a.session n) a.operand) c.from-numbers.ensures)

pub returns : goal.returns
returns c =
    let a = c.args in
    ap (λ (s : Session). Ok s) c.put_numbers.ensures
    ∙ value_served _ c.leave_lent.ensures c.in_ok-leave_lent.was
    ∙ ap (λ (n : Numbers). left (laid_out a.session n) a.operand) c.from-numbers.ensures
