-- What the readers of given bytes answer: what is behind them, or none where they do not stand in front.
-- Assumes nothing.
use Rattle.std.specs.Prelude.{◌≡◌, true, false, List, ◌∷◌, ◌++◌, ℕ, ◌-◌, Option, Some, None}
use Rattle.std.specs.Borrow.{Bor}
use Rattle.laws.specs.Text.Numbers.{is_digit, goes_on}

-- the byte b
pub record Behind (b : ℕ) (t : List ℕ) (r : Option (Bor (List ℕ))) : Type 0 where
  pub to : (rest : Bor (List ℕ)) → r ≡ Some rest → t ≡ b ∷ rest.now
  pub bad : r ≡ None → (rest : List ℕ) → t ≡ b ∷ rest → ⊥

-- the bytes u
pub record BehindAll (u t : List ℕ) (r : Option (Bor (List ℕ))) : Type 0 where
  pub to : (rest : Bor (List ℕ)) → r ≡ Some rest → t ≡ u ++ rest.now
  pub bad : r ≡ None → (rest : List ℕ) → t ≡ u ++ rest → ⊥

-- a digit that says d
pub record DigitHere (t : List ℕ) (d : ℕ) (rest : List ℕ) : Type 0 where
  pub byte : ℕ
  pub is : is_digit byte ≡ true
  pub says : d ≡ byte - 48
  pub form : t ≡ byte ∷ rest

pub record FindsDigit (t : List ℕ) (r : Option (ℕ × Bor (List ℕ))) : Type 0 where
  pub value : (d : ℕ) (rest : Bor (List ℕ)) → r ≡ Some (d, rest) → DigitHere t d rest.now
  pub bad : r ≡ None → goes_on t ≡ false
