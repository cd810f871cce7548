-- A copy as a C function answers it: 0, or the refusal's number negated; and the destination that was lent.
-- Assumes nothing.
use Rattle.std.specs.Prelude.{List, ℕ, ℤ, Result}
use Rattle.strided.specs.Memory.{Handed}
use Rattle.strided.specs.declared.Refusal.{Refusal}

-- the function answers r, and the destination that held `old` holds `new`
abbrev pub CopiesMemory : Result (List ℕ) Refusal → List ℕ → List ℕ → ℤ → Type 0
CopiesMemory done old new r = Handed (λ (out : List ℕ). out) done old new r
