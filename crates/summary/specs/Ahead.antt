-- What the loops over cells ask: the cells that are ahead of a summary lie in the slice, and its count has room for them. And the offsets of a
-- run, and of rows of runs, as the loops go through them.
-- Assumes nothing.
use Rattle.std.specs.Prelude.{◌≡◌, true, List, [], ◌∷◌, ◌++◌, map, ℕ, zero, suc, ◌+◌, ◌^◌, ◌≤◌, ◌<◌, ℤ, pos, ◌+ℤ◌, ◌*ℤ◌, Float, length, None}
use Rattle.std.specs.Int.{w64}
use Rattle.std.proofs.Common.{SFits}
use Rattle.laws.specs.Base.Lists.{All}
use Rattle.summary.specs.declared.cell.Summary.{Summary}
use Rattle.summary.specs.Sums.{with_cells}
use Rattle.strided.specs.Begin.{begin_refused}
use Rattle.strided.specs.declared.Plan.{Plan}
use Rattle.advance.specs.Sized.{Sized}
use Rattle.span.specs.Span.{in_cells}
use Rattle.summary.specs.Visits.{cell_of, visits_of}

-- n offsets from o on, t apart
abbrev pub run_from : ℤ → ℤ → ℕ → List ℤ
run_from o t zero = []
run_from o t (suc n) = o ∷ run_from (o +ℤ t) t n

-- c runs, the first from o on and each d behind the one before
abbrev pub rows_from : ℤ → ℤ → ℕ → ℤ → ℕ → List ℤ
rows_from o d zero t n = []
rows_from o d (suc c) t n = run_from o t n ++ rows_from (o +ℤ d) d c t n

-- each offset is that of a cell
abbrev pub AllIn : List Float → List ℤ → Type 0
AllIn cells os = All (λ (o : ℤ). in_cells (length cells) o ≡ true) os

-- the cells at these offsets may be met
pub record Ahead (cells : List Float) (s : Summary) (os : List ℤ) : Type 0 where
  pub few : s.nans ≤ s.count
  pub room : s.count + length os < 2 ^ 64
  pub inside : AllIn cells os

-- and what they make of the summary
abbrev pub met : List Float → Summary → List ℤ → Summary
met cells s os = with_cells s (map (cell_of cells) os)

-- the first offsets of c runs are numbers of 64 bits
abbrev pub RunsFit : ℤ → ℤ → ℕ → Type 0
RunsFit o d c = (j : ℕ) → j < c → SFits w64 (o +ℤ pos j *ℤ d)

-- what the walk of a plan asks: the plan is one as a value has it, its walk begins at the start z, and each cell that it meets lies in the slice
pub record Summable (p : Plan) (z : ℤ) (cells : List Float) : Type 0 where
  pub sized : Sized p
  pub begins : begin_refused p (z ∷ []) ≡ None
  pub inside : AllIn cells (visits_of p z)
