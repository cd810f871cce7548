-- `finding::plan_index_into` meets its contract. Assumes nothing.
use mathlib.Core.Path.{◌∙◌}
use Rattle.std.proofs.lemmas.Result.{err_from_is_err_and}
use Rattle.layout.proofs.Checks.{checked-through, checked_some}
use Rattle.finding.proofs.Maps.{sound}
use Rattle.finding.proofs.Answers.{same-told, cells-few, tells_plan, plan_passed, plan_refused}
use Rattle.finding.proofs.plan_index_into.Goals as goal

pub returns-in_err-layout : goal.returns-in_err-layout
returns-in_err-layout c =
    let a = c.args in
    let p = err_from_is_err_and c.from_residual.result c.from_residual.ensures.1 in
    rw (p.1, p.2) (plan_refused a.extents.now a.sizes.now a.strides.now a.purpose a.original.now _ (checked_some a.extents.now a.sizes.now a.strides.now c.check_layout.ensures c.in_err-layout.was))

-- rows 1 to 6 let the layout through, and so the map serves
pub invariant_of-map : goal.invariant_of-map
invariant_of-map c =
    let a = c.args in
    let l = checked-through a.extents.now a.sizes.now a.strides.now c.check_layout.ensures c.in_ok-layout.was in
    record { sound = sound c.in_ok-layout.layout.fits c.map_into.ensures (cells-few a.extents.now a.sizes.now a.strides.now a.purpose l) }

pub returns : goal.returns
returns c =
    let a = c.args in
    let l = checked-through a.extents.now a.sizes.now a.strides.now c.check_layout.ensures c.in_ok-layout.was in
    let serves = sound c.in_ok-layout.layout.fits c.map_into.ensures (cells-few a.extents.now a.sizes.now a.strides.now a.purpose l) in
    same-told (tells_plan serves c.map_into.ensures a.original.now ∙ plan_passed a.extents.now a.sizes.now a.strides.now a.purpose l a.original.now) c.plan_by_into.ensures
