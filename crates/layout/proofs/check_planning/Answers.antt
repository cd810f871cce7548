-- `layout::check_planning` meets its contract: rows 1 to 4, where they pass 24, and where that passes 5 and 6. Assumes nothing.
use mathlib.Core.Path.{sym, ◌∙◌}
use Rattle.std.proofs.lemmas.Result.{err_from_is_err_and}
use Rattle.laws.specs.Refusals.Rows.{served_none, refused_some}
use Rattle.layout.proofs.Checks.{checked-through, checked_some, through_with}
use Rattle.layout.proofs.Table.{planning_spans, planning_record, planning_counts_refuse}
use Rattle.layout.proofs.check_planning.Goals as goal

pub returns-in_err-layout : goal.returns-in_err-layout
returns-in_err-layout c =
    let a = c.args in
    let p = err_from_is_err_and c.from_residual.result c.from_residual.ensures.1 in
    rw (p.1, p.2) (planning_counts_refuse a.extents.now a.sizes.now a.strides.now a.purpose (checked_some a.extents.now a.sizes.now a.strides.now c.check_counts.ensures c.in_err-layout.was) a.machine)

pub returns-in_err-check_spans : goal.returns-in_err-check_spans
returns-in_err-check_spans c =
    let a = c.args in
    let p = err_from_is_err_and c.from_residual-in_err-check_spans.result c.from_residual-in_err-check_spans.ensures.1 in
    rw (p.1, p.2) (planning_spans a.extents.now a.sizes.now a.strides.now a.purpose (checked-through a.extents.now a.sizes.now a.strides.now c.check_counts.ensures c.in_ok-layout.was) a.machine (sym c.if-not-machine_allowed.ensures)
    ∙ refused_some _ _ (sym c.check_spans.ensures ∙ c.in_err-check_spans.was))

pub returns : goal.returns
returns c =
    let a = c.args in
    let l = checked-through a.extents.now a.sizes.now a.strides.now c.check_counts.ensures c.in_ok-layout.was in
    through_with l (planning_spans a.extents.now a.sizes.now a.strides.now a.purpose l a.machine (sym c.if-not-machine_allowed.ensures) ∙ served_none _ _ (sym c.check_spans.ensures ∙ c.in_ok-check_spans.was))

pub returns-then-not-machine_allowed : goal.returns-then-not-machine_allowed
returns-then-not-machine_allowed c =
    let a = c.args in
    planning_record a.extents.now a.sizes.now a.strides.now a.purpose (checked-through a.extents.now a.sizes.now a.strides.now c.check_counts.ensures c.in_ok-layout.was) a.machine (sym c.if-not-machine_allowed.ensures)
