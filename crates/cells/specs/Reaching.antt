-- What working out a cell's place asks: its numbers, the places of its run's first cell and its own stay within 64-bit signed. It holds
-- wherever a patch lies in a buffer, since no buffer has 2^63 bytes.
-- Assumes nothing.
use Rattle.std.specs.Prelude.{List, map, ℕ, ◌+◌, ◌-◌, ◌^◌, ◌≤◌, ◌<◌, T, ℤ, pos, nat_abs, ◌+ℤ◌, ◌*ℤ◌}
use Rattle.std.specs.Int.Signed.{non_neg}
use Rattle.strided.specs.Base.{over, run}
use Rattle.cells.specs.declared.Side.{Side}
use Rattle.cells.specs.Copy.{Pair}
use Rattle.cells.specs.Patch.{spot, place, cell_at, run_cells}

-- where run j begins
abbrev pub run_spot : Side → ℕ → ℤ
run_spot o j = pos o.first +ℤ pos j *ℤ o.step1

pub record Reaches (o : Side) (i j : ℕ) : Type 0 where
  pub first : o.first < 2 ^ 63
  pub along : i < 2 ^ 63
  pub across : j < 2 ^ 63
  pub run-from : T (non_neg (run_spot o j))
  pub run_to : nat_abs (run_spot o j) < 2 ^ 63
  pub from : T (non_neg (spot o i j))
  pub to : nat_abs (spot o i j) < 2 ^ 63

-- and what copying it asks: it lies in its buffer of len bytes
pub record CellIn (w len : ℕ) (o : Side) (i j : ℕ) : Type 0 where
  pub reaches : Reaches o i j
  pub inside : place o i j + w ≤ len

-- every one of the first n cells of run j; of `count` runs from j on
unfoldable pub RunIn : ℕ → ℕ → ℕ → ℕ → Side → Type 0
RunIn w len n j o = (i : ℕ) → i < n → CellIn w len o i j

unfoldable pub RunsIn : ℕ → ℕ → ℕ → ℕ → ℕ → Side → Type 0
RunsIn w len n j count o = (i k : ℕ) → i < n → k < count → CellIn w len o i (j + k)

-- of a patch
unfoldable pub PatchIn : ℕ → ℕ → ℕ → ℕ → Side → Type 0
PatchIn w len n0 n1 o = (i j : ℕ) → i < n0 → j < n1 → CellIn w len o i j

-- ---- cells in other orders

-- runs from j on
unfoldable pub runs_from : ℕ → ℕ → ℕ → Side → Side → List Pair
runs_from n0 j count to from = over (run j count) (run_cells n0 to from)

-- cell i of each run from j on, and all of them cell by cell
abbrev pub across : ℕ → ℕ → Side → Side → ℕ → List Pair
across j count to from i = map (λ k. cell_at to from k i) (run j count)

unfoldable pub crossing : ℕ → ℕ → ℕ → Side → Side → List Pair
crossing n0 j count to from = over (run 0 n0) (across j count to from)

-- a side whose runs go down by cells of w bytes, gone along from the last cell of each run on, upwards
abbrev pub turned : ℕ → ℕ → Side → Side
turned n0 w o = record { first = place o (n0 - 1) 0; step0 = pos w; step1 = o.step1 }
