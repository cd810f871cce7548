-- A PATCH: n1 runs of n0 cells. Each operand has a place for the first cell and a signed step in bytes along each of the two axes (`Side`).
-- Assumes nothing.
use Rattle.std.specs.Prelude.{List, map, ℕ, ◌+◌, ◌≤◌, ◌<◌, T, ℤ, pos, nat_abs, ◌+ℤ◌, ◌*ℤ◌}
use Rattle.std.specs.Int.Signed.{non_neg}
use Rattle.strided.specs.Base.{over, run}
use Rattle.cells.specs.declared.Side.{Side}
use Rattle.cells.specs.Copy.{Pair, pair}

-- where cell i of run j begins, from the buffer's first byte on; and its place, where that is not below 0
abbrev pub spot : Side → ℕ → ℕ → ℤ
spot o i j = (pos o.first +ℤ pos j *ℤ o.step1) +ℤ pos i *ℤ o.step0

abbrev pub place : Side → ℕ → ℕ → ℕ
place o i j = nat_abs (spot o i j)

-- the cells of run j, and of the patch, run after run
abbrev pub cell_at : Side → Side → ℕ → ℕ → Pair
cell_at to from j i = pair (place to i j) (place from i j)

abbrev pub run_cells : ℕ → Side → Side → ℕ → List Pair
run_cells n0 to from j = map (cell_at to from j) (run 0 n0)

unfoldable pub patch_cells : ℕ → ℕ → Side → Side → List Pair
patch_cells n0 n1 to from = over (run 0 n1) (run_cells n0 to from)

-- a cell of w bytes that begins at z lies in a buffer of len bytes
pub record Inside (w len : ℕ) (z : ℤ) : Type 0 where
  pub from : T (non_neg z)
  pub to : nat_abs z + w ≤ len

-- every cell of the patch does
unfoldable pub Lies : ℕ → ℕ → ℕ → ℕ → Side → Type 0
Lies w len n0 n1 o = (i j : ℕ) → i < n0 → j < n1 → Inside w len (spot o i j)
