-- `window::shifts::shifts_into` meets its contract. Assumes nothing.
use mathlib.Core.Path.{sym, ◌∙◌}
use Rattle.window.proofs.Shifting.{shifts_none, shifts_some}
use Rattle.window.proofs.shifts.shifts_into.Goals as goal

pub returns-then-has_zero : goal.returns-then-has_zero
returns-then-has_zero c =
    let a = c.args in
    shifts_none a.selection (sym c.has_zero.ensures ∙ c.if-has_zero.true) _ c.requires.shifts_value

pub returns : goal.returns
returns c =
    let a = c.args in
    shifts_some a.selection (sym c.has_zero.ensures ∙ c.if-has_zero.false) _ c.sums_into.ensures
