-- `states::state::may_start` meets its contract. Assumes nothing.
use mathlib.Core.Bool.{not}
use mathlib.Core.List.{List}
use Prim.Native.Nat.{ℕ}
use Rattle.strided.specs.Refusals.{row5}
use Rattle.states.specs.Reaches.{may_start}
use mathlib.Core.Path.{sym, ap, ◌∙◌}
use Rattle.states.proofs.state.may_start.Goals as goal

pub returns-then-not-total_over : goal.returns-then-not-total_over
unfolding may_start
returns-then-not-total_over c =
    let total = c.total_over.ensures ∙ ap (λ (es : List ℕ). (row5 es).applies) c.axes.ensures.value in
    ap not c.reach_over.ensures ∙ sym (rw (sym total ∙ c.if-not-total_over.true))

pub returns-else-not-total_over : goal.returns-else-not-total_over
unfolding may_start
returns-else-not-total_over c =
    let total = c.total_over.ensures ∙ ap (λ (es : List ℕ). (row5 es).applies) c.axes.ensures.value in
    rw c.if-not-total_over.false (sym (rw (sym total ∙ c.if-not-total_over.false)))
