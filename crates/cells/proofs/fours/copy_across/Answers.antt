-- `cells::fours::copy_across` meets its contract: four cells, one after the other. Assumes nothing.
use native.Mathlib.Omega.{arith}
use Rattle.cells.proofs.Crossing.{runs_cell, runs_first, still_runs, across_first, across_more}
use Rattle.cells.proofs.fours.copy_across.Goals as goal

pub copy_cell-requires : goal.copy_cell-requires
copy_cell-requires c = record { cell_in = runs_first _ _ _ _ _ _ _ c.requires.runs_in (omega arith) (omega arith); cell_in_2 = runs_first _ _ _ _ _ _ _ c.requires.runs_in_2 (omega arith) (omega arith) }

pub copy_cell-requires-2 : goal.copy_cell-requires-2
copy_cell-requires-2 c =
    let a = c.args in
    let one = across_first _ a.j a.patch.to a.patch.from a.i _ _ c.copy_cell.ensures in record { cell_in = runs_cell _ _ _ _ _ _ _ 1 (still_runs _ _ _ _ _ _ _ _ c.requires.runs_in one) (omega arith) (omega arith); cell_in_2 = runs_cell _ _ _ _ _ _ _ 1 c.requires.runs_in_2 (omega arith) (omega arith) }

pub copy_cell-requires-3 : goal.copy_cell-requires-3
copy_cell-requires-3 c =
    let a = c.args in
    let one = across_first _ a.j a.patch.to a.patch.from a.i _ _ c.copy_cell.ensures in
    let two = across_more _ a.j a.patch.to a.patch.from a.i _ _ 1 one c.copy_cell-2.ensures in record { cell_in = runs_cell _ _ _ _ _ _ _ 2 (still_runs _ _ _ _ _ _ _ _ c.requires.runs_in two) (omega arith) (omega arith); cell_in_2 = runs_cell _ _ _ _ _ _ _ 2 c.requires.runs_in_2 (omega arith) (omega arith) }

pub copy_cell-requires-4 : goal.copy_cell-requires-4
copy_cell-requires-4 c =
    let a = c.args in
    let one = across_first _ a.j a.patch.to a.patch.from a.i _ _ c.copy_cell.ensures in
    let two = across_more _ a.j a.patch.to a.patch.from a.i _ _ 1 one c.copy_cell-2.ensures in
    let three = across_more _ a.j a.patch.to a.patch.from a.i _ _ 2 two c.copy_cell-3.ensures in record { cell_in = runs_cell _ _ _ _ _ _ _ 3 (still_runs _ _ _ _ _ _ _ _ c.requires.runs_in three) (omega arith) (omega arith); cell_in_2 = runs_cell _ _ _ _ _ _ _ 3 c.requires.runs_in_2 (omega arith) (omega arith) }

pub returns : goal.returns
returns c =
    let a = c.args in
    let one = across_first _ a.j a.patch.to a.patch.from a.i _ _ c.copy_cell.ensures in
    let two = across_more _ a.j a.patch.to a.patch.from a.i _ _ 1 one c.copy_cell-2.ensures in
    let three = across_more _ a.j a.patch.to a.patch.from a.i _ _ 2 two c.copy_cell-3.ensures in
    across_more _ a.j a.patch.to a.patch.from a.i _ _ 3 three c.copy_cell-4.ensures
