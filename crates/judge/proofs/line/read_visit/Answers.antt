-- `judge::line::read_visit` meets its contract: a law for each way out: no front, an axis or a length that may not be, no row, all.
-- Assumes nothing.
use mathlib.Core.Path.{sym, ◌∙◌}
use Rattle.judge.proofs.Fronts.{visit_told, visit_open, visit_unsound, visit_none}
use Rattle.judge.proofs.line.read_visit.Goals as goal

pub returns-in_err-run : goal.returns-in_err-run
returns-in_err-run c = rw c.from_residual.ensures (visit_none c.read_front.ensures c.in_err-run.was)

pub returns-then-not-sound : goal.returns-then-not-sound
returns-then-not-sound c =
    visit_unsound c.read_front.ensures c.in_ok-run.was (sym c.sound.ensures ∙ c.if-not-sound.true)

pub returns-in_err-rest : goal.returns-in_err-rest
returns-in_err-rest c =
    rw c.from_residual-in_err-rest.ensures (visit_open c.read_front.ensures c.in_ok-run.was (c.read_row.ensures.bad c.in_err-rest.was))

pub returns : goal.returns
returns c =
    visit_told c.read_front.ensures c.in_ok-run.was (sym c.sound.ensures ∙ c.if-not-sound.false) _ (c.read_row.ensures.to _ c.in_ok-rest.was)
