-- `gougelily::sessions::gougelily_leave_session` meets its contract. Assumes nothing.
use Rattle.session.specs.Session.{left}
use Rattle.session.specs.declared.Session.{Session}
use Rattle.gougelily.proofs.Numbers.{handed}
use Rattle.gougelily.proofs.Answers.{read_code}
use Rattle.gougelily.proofs.sessions.gougelily_leave_session.Goals as goal

pub returns : goal.returns
returns c =
    let args = c.args in
    handed (λ (s : Session). left s args.operand)
    c.read_numbers-numbers.ensures
    c.put_numbers.ensures
    (read_code c.code_of.type_inv c.code_of.ensures)
    c.leave_lent-answer.ensures
