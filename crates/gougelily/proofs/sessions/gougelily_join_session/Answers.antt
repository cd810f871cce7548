-- `gougelily::sessions::gougelily_join_session` meets its contract. Assumes nothing.
use Rattle.session.specs.Session.{joined}
use Rattle.session.specs.declared.Session.{Session}
use Rattle.gougelily.proofs.Numbers.{handed}
use Rattle.gougelily.proofs.Answers.{read_code}
use Rattle.gougelily.proofs.sessions.gougelily_join_session.Goals as goal

pub returns : goal.returns
returns c =
    let args = c.args in
    handed (λ (s : Session). joined s args.size args.joining.now)
    c.read_numbers-numbers.ensures
    c.put_numbers.ensures
    (read_code c.code_of.type_inv c.code_of.ensures)
    c.join_lent-answer.ensures
