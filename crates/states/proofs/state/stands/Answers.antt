-- `states::state::stands` meets its contract. Assumes nothing.
use mathlib.Core.Path.{◌≡◌, sym, ap, ◌∙◌, subst}
use lib.ListN.{length, take}
use native.Mathlib.Omega.{arith}
use Rattle.layout.specs.Lent.{Whole}
use Rattle.layout.proofs.Lending.{axes_long}
use Rattle.strided.specs.Begin.{plan_extents}
use Rattle.strided.specs.Layout.{within}
use Rattle.strided.specs.Step.{blank}
use Rattle.strided.specs.declared.Plan.{Plan}
use Rattle.strided.specs.declared.Walk.{Walk}
use Rattle.states.specs.Reaches.{standing}
use Rattle.states.proofs.Table.{cut-length}
use Rattle.states.proofs.Reaching.{stands_ended, stands_out, stands_on}
use Rattle.states.proofs.state.stands.Goals as goal

pub returns-then-walk : goal.returns-then-walk
returns-then-walk c =
    let p = c.args.plan.now in
    let w = c.walk.inside in
    let A : Whole p = subst Whole c.plan.view_is c.plan.invariant in
    let l : length (take p.rank w.counters.now) ≡ length (plan_extents p) =
    sym (cut-length p.rank w.counters.now (omega (arith, A.axes, c.walk.invariant.counters-all))) ∙ sym (axes_long A) in
    stands_ended p w.counters.now l c.if-walk.true (c.all_zero.ensures ∙ ap (λ (q : Plan). blank (take q.rank w.counters.now)) c.plan.view_is)
    ∙ ap (λ (u : Walk). standing u.ended p u.counters) c.walk.view_is

pub returns-then-within : goal.returns-then-within
returns-then-within c =
    let p = c.args.plan.now in
    let w = c.walk.inside in
    let is : c.within.result ≡ within (plan_extents p) (take p.rank w.counters.now) =
    c.within.ensures ∙ (λ i. within (c.axes.ensures.value i) (take (c.plan.view_is i).rank w.counters.now)) in
    stands_on p w.counters.now c.if-walk.false is c.if-within.true c.on_start.ensures ∙ ap (λ (u : Walk). standing u.ended p u.counters) c.walk.view_is

pub returns-else-within : goal.returns-else-within
returns-else-within c =
    let p = c.args.plan.now in
    let w = c.walk.inside in
    let is : c.within.result ≡ within (plan_extents p) (take p.rank w.counters.now) =
    c.within.ensures ∙ (λ i. within (c.axes.ensures.value i) (take (c.plan.view_is i).rank w.counters.now)) in
    c.if-within.false ∙ stands_out p w.counters.now c.if-walk.false is c.if-within.false ∙ ap (λ (u : Walk). standing u.ended p u.counters) c.walk.view_is
