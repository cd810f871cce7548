-- `cells::runs::copy_run` meets its contract. Assumes nothing.
use mathlib.Core.Path.{sym, subst}
use Prim.Native.Nat.{ℕ}
use native.Mathlib.Omega.{arith}
use Rattle.cells.specs.Reaching.{CellIn}
use Rattle.cells.proofs.Running.{as_long, none_copied, cell_more, cell_in_lem}
use Rattle.cells.proofs.runs.copy_run.Goals as goal

pub loop-i-init : goal.loop-i-init
loop-i-init c = (omega arith, none_copied _ _ _)

pub copy_cell-requires : goal.copy_cell-requires
copy_cell-requires c =
    let a = c.args in
    let h = c.loop-i-test.true in
    let long = sym (as_long _ _ _ _ c.loop-i.invariant.1) in record { cell_in = subst (λ (len : ℕ). CellIn a.patch.width len a.patch.to c.loop-i.i a.j) long (cell_in_lem _ _ _ _ _ _ c.requires.run_in h); cell_in_2 = cell_in_lem _ _ _ _ _ _ c.requires.run_in_2 h }

pub loop-i-preserved : goal.loop-i-preserved
loop-i-preserved c =
    let a = c.args in (omega arith, cell_more _ a.patch.to a.patch.from _ _ a.j c.loop-i.i c.loop-i.invariant.1 c.copy_cell.ensures)
