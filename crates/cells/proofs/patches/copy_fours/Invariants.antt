-- The invariants of `patches::copy_fours`.
use mathlib.Core.Path.{◌≡◌}
use Prim.Native.Nat.{◌*◌}
use Rattle.cells.specs.Copy.{copied}
use Rattle.cells.specs.Patch.{patch_cells}
use Rattle.cells.proofs.patches.copy_fours.Given as goal

abbrev pub invariant-loop-four : goal.invariant-loop-four
invariant-loop-four l =
    l.destination ≡ copied l.patch.width (patch_cells l.patch.n0 (4 * l.four) l.patch.to l.patch.from) l.fn.destination l.source

abbrev pub invariant-loop-j : goal.invariant-loop-j
invariant-loop-j l =
    l.destination ≡ copied l.patch.width (patch_cells l.patch.n0 l.j l.patch.to l.patch.from) l.fn.destination l.source
