-- The invariants of `runs::copy_run`.
use mathlib.Core.Path.{◌≡◌}
use Prim.Native.Nat.{◌≤◌}
use Rattle.cells.specs.Copy.{copied}
use Rattle.cells.specs.Patch.{run_cells}
use Rattle.cells.proofs.runs.copy_run.Given as goal

abbrev pub invariant-loop-i : goal.invariant-loop-i
invariant-loop-i l =
    (l.i ≤ l.patch.n0) × (l.destination ≡ copied l.patch.width (run_cells l.i l.patch.to l.patch.from l.j) l.initial.destination l.source)
