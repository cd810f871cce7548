-- `layout::check_layout` meets its contract: rows 1 to 4, and where they pass 5 and 6. Assumes nothing.
use mathlib.Core.Path.{sym, ◌∙◌}
use Rattle.std.proofs.lemmas.Result.{err_from_is_err_and}
use Rattle.laws.specs.Refusals.Rows.{served_none, refused_some}
use Rattle.layout.proofs.Checks.{checked-through, checked_some, through_with}
use Rattle.layout.proofs.Table.{layout_spans, layout_counts_refuse}
use Rattle.layout.proofs.check_layout.Goals as goal

pub returns-in_err-layout : goal.returns-in_err-layout
returns-in_err-layout c =
    let a = c.args in
    let p = err_from_is_err_and c.from_residual.result c.from_residual.ensures.1 in
    rw (p.1, p.2) (layout_counts_refuse a.extents.now a.sizes.now a.strides.now a.purpose (checked_some a.extents.now a.sizes.now a.strides.now c.check_counts.ensures c.in_err-layout.was))

pub returns-in_err-check_spans : goal.returns-in_err-check_spans
returns-in_err-check_spans c =
    let a = c.args in
    let p = err_from_is_err_and c.from_residual-in_err-check_spans.result c.from_residual-in_err-check_spans.ensures.1 in
    rw (p.1, p.2) (layout_spans a.extents.now a.sizes.now a.strides.now a.purpose (checked-through a.extents.now a.sizes.now a.strides.now c.check_counts.ensures c.in_ok-layout.was)
    ∙ refused_some _ _ (sym c.check_spans.ensures ∙ c.in_err-check_spans.was))

pub returns : goal.returns
returns c =
    let a = c.args in
    let l = checked-through a.extents.now a.sizes.now a.strides.now c.check_counts.ensures c.in_ok-layout.was in
    through_with l (layout_spans a.extents.now a.sizes.now a.strides.now a.purpose l ∙ served_none _ _ (sym c.check_spans.ensures ∙ c.in_ok-check_spans.was))
