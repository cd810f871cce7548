-- `joining::join_lent` meets its contract. Assumes nothing.
use Rattle.std.proofs.lemmas.Result.{err_from_is_err_and}
use Rattle.strided.specs.Refusals.{refused_by}
use Rattle.session.specs.declared.Session.{Session}
use Rattle.session.specs.Session.{fresh_of, given_of, with_operand, join_rows, joined}
use Rattle.session.specs.Made.{session_at}
use Rattle.joining.proofs.Answering.{lent_refused, lent_served, join_stands, join_plan, join_few, join_all, joined_layout, joined_table, joined_session}
use Rattle.joining.proofs.join_lent.Goals as goal

pub add_operand-requires : goal.add_operand-requires
add_operand-requires c =
    -- the rows let the call through
    let e = c.check_join.ensures in
    let told = c.in_ok-check_join.was in record { operands_bound = (join_few _ _ _ _ _ _ _ _ _ _ _ e.told told, join_all _ _ _ _ _ _ _ _ _ _ _ e.told told); standing = join_stands _ _ _ _ _ _ _ _ _ _ _ e.told told (e.table told) }

pub clear_plan-requires : goal.clear_plan-requires
clear_plan-requires c =
    let p = join_plan _ _ _ _ _ _ _ _ _ _ _ c.check_join.ensures.told c.in_ok-check_join.was in
    record { plan_operands_bound = p.0; plan_strides_value = p.1 }

pub grown-requires : goal.grown-requires
grown-requires c = join_few _ _ _ _ _ _ _ _ _ _ _ c.check_join.ensures.told c.in_ok-check_join.was

pub keep-requires : goal.keep-requires
keep-requires c =
    let e = c.check_join.ensures in
    let told = c.in_ok-check_join.was in record { layout_right = joined_layout _ _ _ _ _ _ _ _ _ _ _ e.told told _ _ c.grown.ensures c.add_operand.ensures; table_of = joined_table _ _ _ _ _ _ _ _ _ _ _ e.told told _ _ c.grown.ensures c.add_operand.ensures; plan_strides_value = c.clear_plan.ensures }

pub returns : goal.returns
unfolding joined
returns c =
    let a = c.args in
    let session : Session = session_at a.numbers.now a.extents.now a.sizes.now a.strides.now a.ranks.now a.weights.now a.costs.now a.plan_extents.now a.blocks.now a.plan_strides.now in
    let e = c.check_join.ensures.told in
    let told = c.in_ok-check_join.was in
    lent_served (refused_by (join_rows session a.joining.now)) (fresh_of (with_operand (given_of session) a.size a.joining.now)) session e told
    (joined_session _ _ _ _ _ _ _ _ _ _ _ e told _ _ c.grown.ensures c.add_operand.ensures _ _ _ _ _ _ c.keep.ensures.numbers c.keep.ensures.kept)

pub returns-in_err-check_join : goal.returns-in_err-check_join
unfolding joined
returns-in_err-check_join c =
    let a = c.args in
    let session : Session = session_at a.numbers.now a.extents.now a.sizes.now a.strides.now a.ranks.now a.weights.now a.costs.now a.plan_extents.now a.blocks.now a.plan_strides.now in
    let p = err_from_is_err_and c.from_residual.result c.from_residual.ensures.1 in
    rw (p.1, p.2) (lent_refused (refused_by (join_rows session a.joining.now)) (fresh_of (with_operand (given_of session) a.size a.joining.now)) session c.check_join.ensures.told c.in_err-check_join.was)
