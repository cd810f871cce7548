-- `session::check_join` meets its contract. Assumes nothing.
use mathlib.Core.Path.{sym, ◌∙◌}
use lib.ListN.{take}
use Rattle.session.specs.Session.{new_rows}
use Rattle.session.proofs.Holding.{right_layout, past_10, at_10}
use Rattle.session.proofs.check_join.Goals as goal

pub check_joining-requires : goal.check_joining-requires
check_joining-requires c = (right_layout c.args.session.now (c.holds.ensures.told.yes c.if-not-holds.false)).axes

pub returns : goal.returns
returns c =
    let s = c.args.session.now in
    let h = c.holds.ensures in
    record {
      told = c.check_joining.ensures ∙ sym (past_10 s h.told (new_rows s.rank s.operands (take s.rank s.extents) c.args.joining.now) c.if-not-holds.false);
      table = λ e. h.table c.if-not-holds.false;
    }

pub returns-then-not-holds : goal.returns-then-not-holds
returns-then-not-holds c =
    let s = c.args.session.now in
    record { told = sym (at_10 s c.holds.ensures.told (new_rows s.rank s.operands (take s.rank s.extents) c.args.joining.now) c.if-not-holds.true); table = λ e. cc }
