-- A run part by part: cells that lie between the extremes only add to the sum, and other cells are met two by two.
-- Assumes nothing.
use Rattle.std.specs.Prelude.{◌≡◌, Bool, ◌&&◌, List, ℕ, ◌+◌, ℤ, pos, ◌+ℤ◌, ◌*ℤ◌, Float}
use Rattle.std.specs.Float.Ieee.{le}
use Rattle.summary.specs.declared.cell.Summary.{Summary}
use Rattle.summary.specs.declared.run.Part.{Part}
use Rattle.summary.specs.Ahead.{run_from, met}

-- neither below the least nor above the greatest, and a number
abbrev pub between : Float → Float → Float → Bool
between least x greatest = le least x && le x greatest

-- there are extremes, and it lies between them
abbrev pub adds_only : Summary → Float → Bool
adds_only s x = s.extremes && between s.least x s.greatest

-- n cells more, and another sum; all else as it was
abbrev pub grown : Summary → ℕ → Float → Summary
grown s n sum =
    record { sum = sum; least = s.least; greatest = s.greatest; count = s.count + n; nans = s.nans; extremes = s.extremes }

-- the n cells behind the one at o are met
pub record Went (cells : List Float) (s : Summary) (o t : ℤ) (n : ℕ) (r : Part) : Type 0 where
  pub many : r.met ≡ n
  pub makes : r.summary ≡ met cells s (run_from (o +ℤ t) t n)
  pub ends : r.last ≡ o +ℤ pos n *ℤ t
