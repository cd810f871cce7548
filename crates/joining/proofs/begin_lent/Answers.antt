-- `joining::begin_lent` meets its contract. Assumes nothing.
use mathlib.Core.Path.{refl, sym, ap}
use native.Mathlib.Omega.{arith}
use Rattle.std.proofs.lemmas.Result.{err_from_is_err_and}
use Rattle.strided.specs.Refusals.{answered}
use Rattle.layout.specs.Checked.{LetThrough}
use Rattle.layout.proofs.Checks.{checked-through, checked_some}
use Rattle.session.specs.Session.{Given, given, refused_of, fresh_of, begun}
use Rattle.session.specs.Afresh.{taken_of}
use Rattle.joining.proofs.Answering.{lent_refused, lent_served}
use Rattle.joining.proofs.Moving.{stands_begun, stands_right, stands_table, stands_session}
use Rattle.joining.proofs.begin_lent.Goals as goal
use Rattle.joining.proofs.begin_lent.Goals.{In_ok-layout}

-- planning accepts the layout
through : (c : In_ok-layout) → let a = c.args in LetThrough (refused_of (given a.aim.machine a.layout_extents.now a.layout_sizes.now a.layout_strides.now a.aim.purpose)) a.layout_extents.now a.layout_sizes.now a.layout_strides.now c.in_ok-layout.layout
through c = let a = c.args in checked-through a.layout_extents.now a.layout_sizes.now a.layout_strides.now c.check_planning.ensures c.in_ok-layout.was

pub lay_into-requires : goal.lay_into-requires
lay_into-requires c =
    let G : Given = let a = c.args in given a.aim.machine a.layout_extents.now a.layout_sizes.now a.layout_strides.now a.aim.purpose in
    (omega arith, ((taken_of G (through (goal.at.lay_into-requires c).In_ok-layout).served).axes, refl))

pub lay_operands-requires : goal.lay_operands-requires
lay_operands-requires c = record { operands = (through (goal.at.lay_operands-requires c).In_ok-layout).operands; table_value = refl }

pub keep-requires : goal.keep-requires
keep-requires c =
    let l = through (goal.at.keep-requires c).In_ok-layout in
    let t = stands_begun l c.begun.ensures c.lay_into.ensures c.lay_operands.ensures in
    record { layout_right = stands_right l.served t; table_of = stands_table l.served t; plan_strides_value = refl }

pub returns : goal.returns
unfolding begun
returns c =
    let G : Given = let a = c.args in given a.aim.machine a.layout_extents.now a.layout_sizes.now a.layout_strides.now a.aim.purpose in
    let l = through (goal.at.returns c).In_ok-layout in
    lent_served (refused_of G) (fresh_of G) _ (sym (ap answered l.served)) refl
    (stands_session l.served (stands_begun l c.begun.ensures c.lay_into.ensures c.lay_operands.ensures)
    _ _ _ _ _ _ c.keep.ensures.numbers c.keep.ensures.kept)

pub returns-in_err-layout : goal.returns-in_err-layout
unfolding begun
returns-in_err-layout c =
    let a = c.args in
    let G : Given = given a.aim.machine a.layout_extents.now a.layout_sizes.now a.layout_strides.now a.aim.purpose in
    let p = err_from_is_err_and c.from_residual.result c.from_residual.ensures.1 in
    rw (p.1, p.2) (lent_refused (refused_of G) (fresh_of G) _ (sym (ap answered (checked_some a.layout_extents.now a.layout_sizes.now a.layout_strides.now c.check_planning.ensures c.in_err-layout.was))) refl)
