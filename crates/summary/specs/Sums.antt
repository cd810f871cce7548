-- "The summary holds the sum, the least and the greatest cell as floats, beside the count of cells and of not-a-number cells, a cell counted
-- at each visit." What one cell makes of a summary, and what cells in order make of it. Floats are those of lib.Ieee: there is one `nan`
-- there, so that "the bits of a not-a-number sum are left open", and `sum ≡ nan` says that the sum is not a number.
-- Assumes nothing.
use Rattle.std.specs.Prelude.{Bool, true, false, cond, List, [], ◌∷◌, ◌+◌, pos, Float}
use Rattle.std.specs.Float.Ieee as Ieee
use Rattle.std.specs.Float.{fin, binary64}
use Rattle.std.specs.Float.Ieee.{is_nan}
use Rattle.summary.specs.declared.cell.Summary.{Summary}

-- +0.0
abbrev pub plus_zero : Float
plus_zero = fin false 0 (pos 0)

-- "The sum starts at +0.0"; without a cell no extremes exist, and "both are +0.0 if not"
abbrev pub nothing_met : Summary
nothing_met = record { sum = plus_zero; least = plus_zero; greatest = plus_zero; count = 0; nans = 0; extremes = false }

-- "and adds each cell with one rounding"
abbrev pub with_sum : Float → Float → Float
with_sum sum x = Ieee.add binary64 sum x

-- "later a strictly smaller or greater one replaces its own"
abbrev pub lesser : Float → Float → Float
lesser x least = cond (Ieee.lt x least) x least

abbrev pub greater : Float → Float → Float
greater x greatest = cond (Ieee.lt greatest x) x greatest

-- "Not-a-number cells enter the sum but neither extreme."
abbrev pub with_nan : Summary → Float → Summary
with_nan s x = record {
  sum = with_sum s.sum x;
  least = s.least;
  greatest = s.greatest;
  count = s.count + 1;
  nans = s.nans + 1;
  extremes = s.extremes;
}

-- "The first other cell sets both extremes": there are none yet, or there are
abbrev pub with_number : Bool → Summary → Float → Summary
with_number false s x = record {
  sum = with_sum s.sum x;
  least = x;
  greatest = x;
  count = s.count + 1;
  nans = s.nans;
  extremes = true;
}
with_number true s x =
    record { sum = with_sum s.sum x; least = lesser x s.least; greatest = greater x s.greatest; count = s.count + 1; nans = s.nans; extremes = true }

-- ONE MORE CELL
abbrev pub with_cell : Summary → Float → Summary
with_cell s x = cond (is_nan x) (with_nan s x) (with_number s.extremes s x)

-- CELLS IN ORDER
abbrev pub with_cells : Summary → List Float → Summary
with_cells s [] = s
with_cells s (x ∷ xs) = with_cells (with_cell s x) xs

unfoldable pub summary_of : List Float → Summary
summary_of xs = with_cells nothing_met xs
