-- `window::window` meets its contract: what is made where no row applies, and the refusal where one does. Assumes nothing.
use Rattle.std.proofs.Common.{refl}
use Rattle.std.proofs.lemmas.Result.{err_from_is_err_and}
use Rattle.layout.proofs.Checks.{checked-through, checked_some, as_through}
use Rattle.window.specs.Layouts.{WindowTaken, window_taken}
use Rattle.window.proofs.Answers.{refuses, serves}
use Rattle.window.proofs.window.Goals as goal

pub returns-in_err-layout : goal.returns-in_err-layout
returns-in_err-layout c =
    let a = c.args in
    let p = err_from_is_err_and c.from_residual.result c.from_residual.ensures.1 in
    rw (p.1, p.2) (refuses a.extents.now a.sizes.now a.strides.now a.picks.firsts.now a.picks.counts.now a.picks.steps.now _ (checked_some a.extents.now a.sizes.now a.strides.now c.check_window.ensures c.in_err-layout.was))

pub window_into-requires : goal.window_into-requires
window_into-requires c =
    let a = c.args in
    -- no row applies
    let l = checked-through a.extents.now a.sizes.now a.strides.now c.check_window.ensures c.in_ok-layout.was in
    record {
      window_taken = as_through l (λ e m s. WindowTaken e m s a.picks.firsts.now a.picks.counts.now a.picks.steps.now) (window_taken a.extents.now a.sizes.now a.strides.now a.picks.firsts.now a.picks.counts.now a.picks.steps.now l.served);
      zeros = record { extents = refl; strides = refl; shifts = refl };
    }

pub returns : goal.returns
returns c =
    let a = c.args in
    let l = checked-through a.extents.now a.sizes.now a.strides.now c.check_window.ensures c.in_ok-layout.was in
    serves a.extents.now a.sizes.now a.strides.now a.picks.firsts.now a.picks.counts.now a.picks.steps.now l _ _ _ c.window_into.ensures
