-- `states::check_begin` meets its contract. Assumes nothing.
use mathlib.Core.Path.{◌≡◌, refl, sym, ap, ◌∙◌, subst}
use mathlib.Core.Bool.{not}
use mathlib.Core.List.{List}
use Prim.Native.Nat.{ℕ, ◌≤◌}
use native.Mathlib.Omega.{arith}
use lib.ListN.{length, replicate, take}
use borrow.Author.Tests.{eq-eqb, ne_eqb}
use Rattle.strided.specs.Begin.{plan_extents, plan_row, begin_refused}
use Rattle.strided.specs.Refusals.{row5, row9}
use Rattle.strided.specs.declared.Plan.{Plan}
use Rattle.layout.specs.Lent.{Whole}
use Rattle.laws.specs.Refusals.Rows.{past_next, past_refused, past_served}
use Rattle.states.specs.Starts.{some_leave, Begins}
use Rattle.states.proofs.Table.{Passed, passed_lent, row9_is, begins}
use Rattle.states.proofs.check_begin.Goals as goal
use Rattle.states.proofs.check_begin.Goals.{After-total_over, After-starts_leave}

-- row 5 is asked of the plan's extents
total : (c : After-total_over) → c.total_over.result ≡ (row5 (plan_extents c.args.plan.now)).applies
total c = c.total_over.ensures ∙ ap (λ (es : List ℕ). (row5 es).applies) c.axes.ensures.value

-- rows 1 and 2 passed where the plan was lent
lent_2 : (c : After-total_over) → Passed c.args.plan.now c.args.starts.now 2
lent_2 c = passed_lent c.args.plan.now c.args.starts.now (subst Whole c.plan.view_is c.plan.invariant)

-- a start for each operand
same : (c : After-starts_leave) → length c.args.starts.now ≡ c.args.plan.now.operands
same c = c.if-starts-plan.false ∙ ap (λ (p : Plan). p.operands) c.plan.view_is

-- so that rows 6 and 8 are passed too
passed_5 : (c : After-starts_leave) → Passed c.args.plan.now c.args.starts.now 3 → Passed c.args.plan.now c.args.starts.now 5
passed_5 c p = past_next (past_next p c.reach_over.ensures c.if-reach_over.false) refl (ap not (eq-eqb _ _ (same c)))

-- row 9 is asked of the counters 0
leave : (c : After-starts_leave) → let p = c.args.plan.now in c.starts_leave.result ≡ (row9 (plan_extents p) p.operands (plan_row p) c.args.starts.now).applies
leave c =
    let p = c.args.plan.now in
    let rank : c.plan.inside.rank ≡ p.rank = ap (λ (q : Plan). q.rank) c.plan.view_is in
    c.starts_leave.ensures ∙ ap (λ (n : ℕ). some_leave p (take n (replicate 64 0)) c.args.starts.now) rank ∙ row9_is p c.args.starts.now

pub returns-then-total_over : goal.returns-then-total_over
unfolding begin_refused
returns-then-total_over c = let l = (goal.at.returns-then-total_over c).After-total_over in past_refused (lent_2 l) (total l) c.if-total_over.true

pub returns-then-reach_over : goal.returns-then-reach_over
unfolding begin_refused
returns-then-reach_over c =
    let l = (goal.at.returns-then-reach_over c).After-total_over in
    past_refused (past_next (lent_2 l) (total l) c.if-total_over.false) c.reach_over.ensures c.if-reach_over.true

pub returns-then-starts-plan : goal.returns-then-starts-plan
unfolding begin_refused
returns-then-starts-plan c =
    let l = (goal.at.returns-then-starts-plan c).After-total_over in
    let other = subst (λ (p : Plan). length c.args.starts.now ≡ p.operands → ⊥) c.plan.view_is c.if-starts-plan.true in
    past_refused (past_next (past_next (lent_2 l) (total l) c.if-total_over.false) c.reach_over.ensures c.if-reach_over.false) refl (ap not (ne_eqb _ _ other))

pub starts_leave-requires : goal.starts_leave-requires
starts_leave-requires c =
    let p = c.args.plan.now in
    let rank : c.plan.inside.rank ≡ p.rank = ap (λ (q : Plan). q.rank) c.plan.view_is in
    let axes : p.rank ≤ 64 = (subst Whole c.plan.view_is c.plan.invariant).axes in
    let same : length c.args.starts.now ≡ p.operands = c.if-starts-plan.false ∙ ap (λ (q : Plan). q.operands) c.plan.view_is in
    let long : length (plan_extents p) ≡ p.rank = sym (ap length c.axes.ensures.value) ∙ c.axes.ensures.long in
    subst (λ (n : ℕ). Begins p (take n (replicate 64 0)) c.args.starts.now) (sym rank)
    (begins p c.args.starts.now long axes (omega (arith, same)) c.reach_over.ensures c.if-reach_over.false)

pub returns-then-starts_leave : goal.returns-then-starts_leave
unfolding begin_refused
returns-then-starts_leave c =
    let at = goal.at.returns-then-starts_leave c in
    let l = at.After-total_over in
    past_refused (passed_5 at.After-starts_leave (past_next (lent_2 l) (total l) c.if-total_over.false)) (leave at.After-starts_leave) c.if-starts_leave.true

pub returns : goal.returns
unfolding begin_refused
returns c =
    let at = goal.at.returns c in
    let l = at.After-total_over in
    past_served (past_next (passed_5 at.After-starts_leave (past_next (lent_2 l) (total l) c.if-total_over.false)) (leave at.After-starts_leave) c.if-starts_leave.false)
