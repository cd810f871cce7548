-- "some cell outside its buffer" (document 02, ask 3, row 17); "a cell outside the slice" (ask 11, row 22): an operand's cells against the
-- number of those that are lent, as a claim over indices and as a test by the least and the greatest offset.
-- Assumes nothing.
use Rattle.std.specs.Prelude.{◌≡◌, Bool, false, ◌&&◌, not, List, ℕ, ◌-◌, ◌≤◌, ltb, ℤ, pos, negsuc, ◌+ℤ◌, ◌-ℤ◌, length}
use Rattle.strided.specs.Layout.{has_zero, Within, dot, reach, reach_down, max_i}

-- an offset at which one of n cells stands
abbrev pub in_cells : ℕ → ℤ → Bool
in_cells n (pos a) = ltb a n
in_cells n (negsuc a) = false

-- an index of the extents whose offset from the start z is that of no cell. With a zero extent there is no index
pub record Outside (es : List ℕ) (ts : List ℤ) (z : ℤ) (n : ℕ) : Type 0 where
  pub index : List ℕ
  pub inside : Within es index
  pub outside : in_cells n (z +ℤ dot index ts) ≡ false

-- the least or the greatest offset is that of no cell (specs/Exact: it holds exactly if `Outside`)
unfoldable pub outside : List ℕ → List ℤ → ℤ → ℕ → Bool
outside es ts z n =
    not (has_zero es)
    && not (in_cells n (z -ℤ pos (reach_down es ts)) && in_cells n (z +ℤ pos (reach es ts - reach_down es ts)))

-- what the code asks: one stride for each extent, and that row 6 has passed
pub record Spans (es : List ℕ) (ts : List ℤ) : Type 0 where
  pub long : length ts ≡ length es
  pub near : has_zero es ≡ false → reach es ts ≤ max_i
