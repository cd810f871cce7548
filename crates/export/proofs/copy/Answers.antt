-- `export::copy` meets its contract: what planning refuses, and what it does not. Assumes nothing.
use Rattle.std.specs.Prelude.{◌≡◌, None}
use Rattle.strided.specs.Refusals.{planning_refused}
use Rattle.strided.specs.declared.Purpose.TheVariants.{PointwiseInto}
use Rattle.layout.specs.Checked.{LetThrough}
use Rattle.export.specs.Export.{copy_done, Done}
use Rattle.std.proofs.lemmas.Result.{err_from_is_err_and}
use Rattle.layout.proofs.Checks.{checked-through, checked_some, through_as, as_through}
use Rattle.export.proofs.Ways.{not-planned}
use Rattle.export.proofs.copy.Goals as goal
use Rattle.export.proofs.copy.Goals.{In_ok-layout}

pub returns-in_err-layout : goal.returns-in_err-layout
returns-in_err-layout c =
    let a = c.args in
    let p = err_from_is_err_and c.from_residual.result c.from_residual.ensures.1 in
    rw (p.1, p.2) (not-planned _ _ _ _ _ _ _ (checked_some a.extents.now a.sizes.now a.strides.now c.check_planning.ensures c.in_err-layout.was))

-- planning refuses nothing
through : (c : In_ok-layout) → let a = c.args in LetThrough (planning_refused a.machine a.extents.now a.sizes.now a.strides.now (PointwiseInto 0)) a.extents.now a.sizes.now a.strides.now c.in_ok-layout.layout
through c = let a = c.args in checked-through a.extents.now a.sizes.now a.strides.now c.check_planning.ensures c.in_ok-layout.was

pub invariant_of-asked : goal.invariant_of-asked
invariant_of-asked c =
    let a = c.args in
    let l = through (goal.at.invariant_of-asked c).In_ok-layout in
    record { operands = l.operands; served = as_through l (λ e m s. planning_refused a.machine e a.sizes.now s (PointwiseInto 0) ≡ None) l.served }

pub returns : goal.returns
returns c =
    let a = c.args in
    let l = through (goal.at.returns c).In_ok-layout in
    through_as l (λ e m s. Done (copy_done a.machine e a.sizes.now s a.starts.now a.destination.now a.source.now) a.destination.now c.copy_accepted.new.destination c.copy_accepted.result) c.copy_accepted.ensures
