-- `gougelily::sessions::gougelily_begin_session` meets its contract. Assumes nothing.
use mathlib.Core.Path.{◌≡◌, subst}
use Rattle.strided.specs.Memory.{purpose_of}
use Rattle.strided.specs.Machine.{machine_of}
use Rattle.strided.specs.declared.Purpose.{Purpose}
use Rattle.session.specs.Session.{Given, given, begun}
use Rattle.session.specs.declared.Session.{Session}
use Rattle.session.specs.Made.{Lent}
use Rattle.gougelily.proofs.Numbers.{handed}
use Rattle.gougelily.proofs.Answers.{read_code}
use Rattle.gougelily.proofs.sessions.gougelily_begin_session.Goals as goal
use Rattle.std.specs.Prelude.{Result}
use Rattle.strided.specs.declared.Refusal.{Refusal}

-- for the purpose that the two numbers tell
lent_as : (f : Purpose → Given) {u v : Purpose} → u ≡ v → {old new : Session} {a : Result (Unit {0}) Refusal} → Lent (begun (f u)) old new a → Lent (begun (f v)) old new a
lent_as f e {old} {new} {a} l = subst (λ (w : Purpose). Lent (begun (f w)) old new a) e l

pub returns : goal.returns
returns c =
    let a = c.args in
    let of = given (machine_of a.line a.cache a.way a.live) a.layout_extents.now a.layout_sizes.now a.layout_strides.now in
    handed (λ (s : Session). begun (of (purpose_of a.wanted a.leading)))
    c.read_numbers-numbers.ensures
    c.put_numbers.ensures
    (read_code c.code_of.type_inv c.code_of.ensures)
    (lent_as of c.purpose_of.ensures c.begin_lent-answer.ensures)
