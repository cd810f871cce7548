-- What was read, and the bytes that are printed for it, at the front of the bytes lent.
-- Assumes nothing.
use Rattle.std.specs.Prelude.{◌≡◌, List, ℕ, ◌≤◌, length, take, Result, Ok}
use Rattle.strided.specs.Text.{Prints}

-- no more was read than there were places
pub record Received {E : Type 0} (size : ℕ) (r : Result ℕ E) : Type 0 where
  pub within : (n : ℕ) → r ≡ Ok n → n ≤ size

-- the first n bytes are what is printed for the text
pub record Printing (text : List ℕ) (n : ℕ) (out : List ℕ) : Type 0 where
  pub prints : Prints text (take n out)
  pub within : n ≤ length out
