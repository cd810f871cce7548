-- A text that is put into a list at a place: what the functions that write leave.
-- Assumes nothing.
use Rattle.std.specs.Prelude.{◌≡◌, List, ◌++◌, ℕ, ◌+◌, length, take, drop}

-- old, with t in place of as many elements from `at` on
unfoldable pub put : List ℕ → ℕ → List ℕ → List ℕ
put old at t = take at old ++ (t ++ drop (at + length t) old)

-- what a writer leaves, and the place behind it
pub record Wrote (old : List ℕ) (at : ℕ) (t new : List ℕ) (next : ℕ) : Type 0 where
  pub list : new ≡ put old at t
  pub place : next ≡ at + length t
