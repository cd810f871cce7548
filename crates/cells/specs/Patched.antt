-- A patch as it is handed over, with both its sides: its cells, the copy of them, and what copying it asks.
-- Assumes nothing.
use Rattle.std.specs.Prelude.{◌≡◌, List, ℕ, ◌<◌, pos, neg_ℤ, length}
use Rattle.cells.specs.declared.patch.Patch.{Patch}
use Rattle.cells.specs.Copy.{Pair, copied, Apart}
use Rattle.cells.specs.Patch.{run_cells, patch_cells, Lies}
use Rattle.cells.specs.Reaching.{PatchIn, runs_from, across}

-- its cells; those of run j; those of `count` runs from j on, and cell i of each of them
abbrev pub cells_of : Patch → List Pair
cells_of p = patch_cells p.n0 p.n1 p.to p.from

abbrev pub run_of : Patch → ℕ → List Pair
run_of p j = run_cells p.n0 p.to p.from j

abbrev pub runs_of : Patch → ℕ → ℕ → List Pair
runs_of p j count = runs_from p.n0 j count p.to p.from

abbrev pub across_of : Patch → ℕ → ℕ → ℕ → List Pair
across_of p j count i = across j count p.to p.from i

-- cells of its width, copied
abbrev pub copy_of : Patch → List Pair → List ℕ → List ℕ → List ℕ
copy_of p cells dst src = copied p.width cells dst src

-- every cell of it lies in its buffer
pub record LieIn (p : Patch) (dst src : List ℕ) : Type 0 where
  pub to : Lies p.width (length dst) p.n0 p.n1 p.to
  pub from : Lies p.width (length src) p.n0 p.n1 p.from

-- and working out its place stays within 64-bit signed
pub record ReachIn (p : Patch) (dst src : List ℕ) : Type 0 where
  pub to : PatchIn p.width (length dst) p.n0 p.n1 p.to
  pub from : PatchIn p.width (length src) p.n0 p.n1 p.from

-- and its cells lie apart: they may be copied in any order
pub record ApartIn (p : Patch) (dst src : List ℕ) : Type 0 where
  pub reach : ReachIn p dst src
  pub apart : Apart p.width (cells_of p)

-- there are cells, and no gaps between those of a run; upwards, and downwards
pub record Packed (p : Patch) : Type 0 where
  pub cells : 0 < p.n0
  pub runs : 0 < p.n1
  pub to : p.to.step0 ≡ pos p.width
  pub from : p.from.step0 ≡ pos p.width

pub record PackedDown (p : Patch) : Type 0 where
  pub cells : 0 < p.n0
  pub runs : 0 < p.n1
  pub to : p.to.step0 ≡ neg_ℤ (pos p.width)
  pub from : p.from.step0 ≡ neg_ℤ (pos p.width)
