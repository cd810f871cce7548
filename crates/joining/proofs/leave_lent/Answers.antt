-- `joining::leave_lent` meets its contract. Assumes nothing.
use mathlib.Core.Path.{ap}
use native.Mathlib.Omega.{arith}
use Rattle.strided.specs.Refusals.{refused_by}
use Rattle.std.proofs.lemmas.Result.{err_from_is_err_and}
use Rattle.session.specs.declared.Numbers.{Numbers}
use Rattle.session.specs.declared.Session.{Session}
use Rattle.session.specs.Session.{fresh_of, given_of, without_operand, leave_rows, left}
use Rattle.session.specs.Made.{session_at}
use Rattle.joining.proofs.Answering.{lent_refused, lent_served, leave_stands, leave_plan, leave_at, leave_few, leave_others, left_layout, left_table, left_session}
use Rattle.joining.proofs.leave_lent.Goals as goal

pub drop_operand-requires : goal.drop_operand-requires
drop_operand-requires c =
    -- the rows let the call through
    let e = c.check_leave.ensures in
    let told = c.in_ok-check_leave.was in record { k_lt_operands = (leave_at _ _ _ _ _ _ _ _ _ _ _ e.told told, leave_few _ _ _ _ _ _ _ _ _ _ _ e.told told); standing = leave_stands _ _ _ _ _ _ _ _ _ _ _ e.told told (e.table told) }

pub clear_plan-requires : goal.clear_plan-requires
clear_plan-requires c =
    let p = leave_plan _ _ _ _ _ _ _ _ _ _ _ c.check_leave.ensures.told c.in_ok-check_leave.was in
    record { plan_operands_bound = p.0; plan_strides_value = p.1 }

pub shrunk-requires : goal.shrunk-requires
shrunk-requires c = leave_others _ _ _ _ _ _ _ _ _ _ _ c.check_leave.ensures.told c.in_ok-check_leave.was

pub invariant_of-laid-clause-few : goal.invariant_of-laid-clause-few
invariant_of-laid-clause-few c =
    let few = leave_few _ _ _ _ _ _ _ _ _ _ _ c.check_leave.ensures.told c.in_ok-check_leave.was in
    let less = ap (λ (x : Numbers). x.operands) c.shrunk.ensures in
    omega (arith, few, less)

pub keep-requires : goal.keep-requires
keep-requires c =
    let e = c.check_leave.ensures in
    let told = c.in_ok-check_leave.was in record { layout_right = left_layout _ _ _ _ _ _ _ _ _ _ _ e.told told _ c.shrunk.ensures c.drop_operand.ensures; table_of = left_table _ _ _ _ _ _ _ _ _ _ _ e.told told _ c.shrunk.ensures c.drop_operand.ensures; plan_strides_value = c.clear_plan.ensures }

pub returns : goal.returns
unfolding left
returns c =
    let a = c.args in
    let session : Session = session_at a.numbers.now a.extents.now a.sizes.now a.strides.now a.ranks.now a.weights.now a.costs.now a.plan_extents.now a.blocks.now a.plan_strides.now in
    let e = c.check_leave.ensures.told in
    let told = c.in_ok-check_leave.was in
    lent_served (refused_by (leave_rows session a.operand)) (fresh_of (without_operand (given_of session) a.operand)) session e told
    (left_session _ _ _ _ _ _ _ _ _ _ _ e told _ c.shrunk.ensures c.drop_operand.ensures _ _ _ _ _ _ c.keep.ensures.numbers c.keep.ensures.kept)

pub returns-in_err-check_leave : goal.returns-in_err-check_leave
unfolding left
returns-in_err-check_leave c =
    let a = c.args in
    let session : Session = session_at a.numbers.now a.extents.now a.sizes.now a.strides.now a.ranks.now a.weights.now a.costs.now a.plan_extents.now a.blocks.now a.plan_strides.now in
    let p = err_from_is_err_and c.from_residual.result c.from_residual.ensures.1 in
    rw (p.1, p.2) (lent_refused (refused_by (leave_rows session a.operand)) (fresh_of (without_operand (given_of session) a.operand)) session c.check_leave.ensures.told c.in_err-check_leave.was)
