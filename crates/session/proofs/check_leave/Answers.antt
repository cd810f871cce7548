-- `session::check_leave` meets its contract. Assumes nothing.
use mathlib.Core.Path.{sym, ap, ◌∙◌}
use mathlib.Core.List.{[], ◌∷◌}
use Rattle.session.specs.Session.{row21}
use Rattle.strided.specs.Refusals.{answered, refused_by}
use Rattle.session.proofs.Holding.{past_10, at_10}
use Rattle.session.proofs.check_leave.Goals as goal

pub returns : goal.returns
returns c =
    let s = c.args.session.now in
    let h = c.holds.ensures in
    record { told = c.check_leaving.ensures ∙ ap (λ s. answered (refused_by (row21 s.operands c.args.operand ∷ []))) c.session.view_is ∙ sym (past_10 s h.told (row21 s.operands c.args.operand ∷ []) c.if-not-holds.false); table = λ e. h.table c.if-not-holds.false }

pub returns-then-not-holds : goal.returns-then-not-holds
returns-then-not-holds c =
    let s = c.args.session.now in
    record { told = sym (at_10 s c.holds.ensures.told (row21 s.operands c.args.operand ∷ []) c.if-not-holds.true); table = λ e. cc }
