-- `window::check_window` meets its contract: the layout's rows with no chosen operand, then row 15. Assumes nothing.
use Rattle.std.proofs.lemmas.Result.{err_from_is_err_and}
use Rattle.layout.proofs.Checks.{checked-through, checked_some}
use Rattle.window.proofs.Row15.{parent_refused, own_refused, own_served}
use Rattle.window.proofs.check_window.Goals as goal

pub returns-in_err-layout : goal.returns-in_err-layout
returns-in_err-layout c =
    let a = c.args in
    let p = err_from_is_err_and c.from_residual.result c.from_residual.ensures.1 in
    rw (p.1, p.2) (parent_refused a.extents.now a.sizes.now a.strides.now a.picks.firsts.now a.picks.counts.now a.picks.steps.now (checked_some a.extents.now a.sizes.now a.strides.now c.check_layout.ensures c.in_err-layout.was))

pub returns-then-window_wrong : goal.returns-then-window_wrong
returns-then-window_wrong c =
    let a = c.args in
    own_refused a.extents.now a.sizes.now a.strides.now a.picks.firsts.now a.picks.counts.now a.picks.steps.now (checked-through a.extents.now a.sizes.now a.strides.now c.check_layout.ensures c.in_ok-layout.was) c.window_wrong.ensures c.if-window_wrong.true

pub returns : goal.returns
returns c =
    let a = c.args in
    own_served a.extents.now a.sizes.now a.strides.now a.picks.firsts.now a.picks.counts.now a.picks.steps.now (checked-through a.extents.now a.sizes.now a.strides.now c.check_layout.ensures c.in_ok-layout.was) c.window_wrong.ensures c.if-window_wrong.false
