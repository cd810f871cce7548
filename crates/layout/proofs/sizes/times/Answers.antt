-- `layout::sizes::times` meets its contract. Assumes nothing.
use Rattle.std.proofs.Common.{◌∙◌, sym, ap}
use Rattle.layout.specs.Held.{times_of}
use Rattle.layout.proofs.Totals.{times_none, times_over, held_checked}
use Rattle.layout.proofs.sizes.times.Goals as goal

pub returns-then-e-eq0 : goal.returns-then-e-eq0
returns-then-e-eq0 c = times_none _ _ c.if-e-eq0.true

pub returns-in_err-t : goal.returns-in_err-t
returns-in_err-t c = rw c.from_residual.ensures (rw c.in_err-t.was (times_over _ c.if-e-eq0.false))

pub returns : goal.returns
unfolding times_of
returns c = held_checked _ _ c.checked_mul.ensures ∙ sym (ap (λ o. times_of o c.args.e) c.in_ok-t.was)
