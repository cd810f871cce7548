-- `cells::patches::copy_runs` meets its contract. Assumes nothing.
use native.Mathlib.Omega.{arith}
use Rattle.cells.proofs.Running.{run_more}
use Rattle.cells.proofs.Patching.{patch-run, patch_start, still_in}
use Rattle.cells.proofs.patches.copy_runs.Goals as goal

pub loop-j-init : goal.loop-j-init
loop-j-init c = (omega arith, patch_start _ _ _ _ _ _)

pub copy_run-requires : goal.copy_run-requires
copy_run-requires c =
    let r = still_in _ _ _ _ c.requires c.loop-j.invariant.1 in
    let h = c.loop-j-test.true in record { run_in = patch-run _ _ _ _ _ _ r.to h; run_in_2 = patch-run _ _ _ _ _ _ r.from h }

pub loop-j-preserved : goal.loop-j-preserved
loop-j-preserved c = (omega arith, run_more _ _ _ _ _ _ _ c.loop-j.invariant.1 c.copy_run.ensures)
