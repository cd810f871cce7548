-- `summary::summarize` meets its contract: the rows of planning, then what is behind them. Assumes nothing.
use mathlib.Core.Path.{◌≡◌, ◌∙◌}
use Rattle.std.specs.Prelude.{length, None}
use mir.Syntax.{w64}
use mir.Facts.{to_z-of_z}
use Rattle.std.proofs.lemmas.Result.{err_from_is_err_and}
use Rattle.strided.specs.Refusals.{planning_refused}
use Rattle.layout.specs.Checked.{LetThrough}
use Rattle.layout.proofs.Checks.{checked-through, checked_some, through_is, as_through}
use Rattle.summary.specs.Visits.{cell_sizes, ordering}
use Rattle.summary.specs.Rows.{summarized}
use Rattle.summary.proofs.Served.{planning_rows_lem, refused_with}
use Rattle.summary.proofs.summarize.Goals as goal
use Rattle.summary.proofs.summarize.Goals.{In_ok-layout}

pub returns-in_err-layout : goal.returns-in_err-layout
returns-in_err-layout c =
    let a = c.args in
    let p = err_from_is_err_and c.from_residual.result c.from_residual.ensures.1 in
    rw (p.1, p.2) (refused_with a.machine a.extents.now a.strides.now a.start a.cells.now _
    (planning_rows_lem a.machine a.extents.now a.strides.now a.start (length a.cells.now) _ (checked_some a.extents.now cell_sizes a.strides.now c.check_planning.ensures c.in_err-layout.was)))

-- planning lets the layout through
through : (c : In_ok-layout) → let a = c.args in LetThrough (planning_refused a.machine a.extents.now cell_sizes a.strides.now ordering) a.extents.now cell_sizes a.strides.now c.in_ok-layout.layout
through c = let a = c.args in checked-through a.extents.now cell_sizes a.strides.now c.check_planning.ensures c.in_ok-layout.was

pub summarize_served-requires : goal.summarize_served-requires
summarize_served-requires c =
    let a = c.args in
    let l = through (goal.at.summarize_served-requires c).In_ok-layout in
    record { one = l.operands; passed = as_through l (λ e m s. planning_refused a.machine e cell_sizes s ordering ≡ None) l.served }

pub returns : goal.returns
returns c =
    let a = c.args in
    let l = through (goal.at.returns c).In_ok-layout in
    let served = rw (to_z-of_z {w = w64} c.ranges.start) at c.summarize_served.ensures in
    served ∙ through_is l (λ e m s. summarized a.machine e s a.start a.cells.now)
