-- A summary in the memory that a C function is lent: three floats, two counts, and whether extremes exist, each in an array of one place. What is
-- answered, and what a refusal keeps, is as strided's Memory has it. Assumes nothing.
use Rattle.std.specs.Prelude.{List, [], ◌∷◌, ℕ, ℤ, Float, Result}
use Rattle.strided.specs.Memory.{flag, Handed}
use Rattle.summary.specs.declared.cell.Summary.{Summary}
use Rattle.strided.specs.declared.Refusal.{Refusal}

pub record SummaryMemory : Type 0 where
  pub sum : List Float
  pub least : List Float
  pub greatest : List Float
  pub count : List ℕ
  pub nans : List ℕ
  pub extremes : List ℕ

-- out of its parts, as a contract names them
abbrev pub summary_at : List Float → List Float → List Float → List ℕ → List ℕ → List ℕ → SummaryMemory
summary_at sum least greatest count nans extremes =
    record { sum = sum; least = least; greatest = greatest; count = count; nans = nans; extremes = extremes }

abbrev pub summary_memory : Summary → SummaryMemory
summary_memory s =
    summary_at (s.sum ∷ []) (s.least ∷ []) (s.greatest ∷ []) (s.count ∷ []) (s.nans ∷ []) (flag s.extremes ∷ [])

-- the function answers r, and lent memory that held `old` holds `new`
abbrev pub Summarizes : Result Summary Refusal → SummaryMemory → SummaryMemory → ℤ → Type 0
Summarizes x old new r = Handed summary_memory x old new r
