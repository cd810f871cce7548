-- What index finding leaves in lent memory. Assumes nothing.
use Rattle.std.specs.Prelude.{◌≡◌, List, ℕ, Result}
use Rattle.strided.specs.Memory.{index_memory, index_at, kept, whether}
use Rattle.strided.specs.declared.Told.{Told}
use Rattle.strided.specs.declared.Refusal.{Refusal}

-- the answer is r, and lent memory that held the count c and the index x holds c' and x'
pub record Leaves (t : Result Told Refusal) (c x c' x' : List ℕ) (r : Result (Unit {0}) Refusal) : Type 0 where
  pub answer : r ≡ whether t
  pub memory : index_at c' x' ≡ kept index_memory t (index_at c x)
