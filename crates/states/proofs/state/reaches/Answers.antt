-- `states::state::reaches` meets its contract. Assumes nothing.
use mathlib.Core.Path.{sym, ap, ◌∙◌, subst}
use mathlib.Core.List.{List}
use Prim.Native.Nat.{ℕ}
use lib.ListN.{take}
use Rattle.strided.specs.Refusals.{row5}
use Rattle.strided.specs.declared.Plan.{Plan}
use Rattle.strided.specs.declared.Walk.{Walk}
use Rattle.layout.specs.Lent.{Whole}
use Rattle.states.specs.Lent.{WholeWalk}
use Rattle.states.specs.Near.{Near}
use Rattle.states.specs.Starts.{some_leave, Begins}
use Rattle.states.proofs.Reaching.{untidy, stands_not, near_last, may-not, leave_last, begins_here}
use Rattle.states.proofs.state.reaches.Goals as goal
use Rattle.states.proofs.state.reaches.Goals.{then-not-tidy-via-then-not-tidy, then-not-tidy-via-else-not-tidy+then-not-stands}

pub returns-then-all_near-clause-told : goal.returns-then-all_near-clause-told
returns-then-all_near-clause-told c =
    let p = c.args.plan.now in
    let w = c.args.walk.now in
    let B : WholeWalk w = subst WholeWalk c.walk.view_is c.walk.invariant in
    let A : Whole p = subst Whole c.plan.view_is c.plan.invariant in
    near_last w.ended p w.counters w.offsets A B.counters-all B.offsets_all c.tidy.ensures c.if-not-tidy.false c.stands.ensures c.if-not-stands.false (subst (λ (u : Walk). Near p u.offsets) c.walk.view_is (c.all_near.ensures c.if-all_near.true))
    (c.total_over.ensures ∙ ap (λ (es : List ℕ). (row5 es).applies) c.axes.ensures.value)

pub starts_leave-requires : goal.starts_leave-requires
starts_leave-requires c =
    let p = c.args.plan.now in
    let w = c.args.walk.now in
    let B : WholeWalk w = subst WholeWalk c.walk.view_is c.walk.invariant in
    let A : Whole p = subst Whole c.plan.view_is c.plan.invariant in
    subst (λ (u : Walk). Begins p (take c.plan.inside.rank u.counters) u.offsets) (sym c.walk.view_is) (subst (λ (q : Plan). Begins p (take q.rank w.counters) w.offsets) (sym c.plan.view_is)
    (begins_here w.ended p w.counters w.offsets A B.counters-all B.offsets_all c.tidy.ensures c.if-not-tidy.false c.stands.ensures c.if-not-stands.false c.may_start.ensures c.if-may_start.true))

pub returns-then-may_start-clause-told : goal.returns-then-may_start-clause-told
returns-then-may_start-clause-told c =
    let p = c.args.plan.now in
    let w = c.args.walk.now in
    let B : WholeWalk w = subst WholeWalk c.walk.view_is c.walk.invariant in
    let A : Whole p = subst Whole c.plan.view_is c.plan.invariant in
    leave_last w.ended p w.counters w.offsets A B.counters-all B.offsets_all c.tidy.ensures c.if-not-tidy.false c.stands.ensures c.if-not-stands.false c.may_start.ensures c.if-may_start.true
    (c.starts_leave.ensures ∙ (λ i. some_leave p (take (c.plan.view_is i).rank (c.walk.view_is i).counters) (c.walk.view_is i).offsets))

pub returns-else-may_start-clause-told : goal.returns-else-may_start-clause-told
returns-else-may_start-clause-told c =
    let p = c.args.plan.now in
    let w = c.args.walk.now in
    let B : WholeWalk w = subst WholeWalk c.walk.view_is c.walk.invariant in
    let A : Whole p = subst Whole c.plan.view_is c.plan.invariant in
    c.if-may_start.false ∙ may-not w.ended p w.counters w.offsets A B.counters-all B.offsets_all c.tidy.ensures c.if-not-tidy.false c.stands.ensures c.if-not-stands.false c.may_start.ensures c.if-may_start.false

pub returns-then-not-tidy-clause-told : goal.returns-then-not-tidy-clause-told
returns-then-not-tidy-clause-told c =
    let p = c.args.plan.now in
    let w = c.args.walk.now in
    let B : WholeWalk w = subst WholeWalk c.walk.view_is c.walk.invariant in
    let A : Whole p = subst Whole c.plan.view_is c.plan.invariant in
    elim c.then-not-tidy.branch [
      | then-not-tidy-via-then-not-tidy v ↦ untidy w.ended p w.counters w.offsets A B.counters-all B.offsets_all c.tidy.ensures v.if-not-tidy.true
      | then-not-tidy-via-else-not-tidy+then-not-stands v ↦
          stands_not w.ended p w.counters w.offsets A B.counters-all B.offsets_all c.tidy.ensures v.if-not-tidy.false v.stands.ensures v.if-not-stands.true
    ]
