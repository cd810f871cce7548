-- What the readers of numbers answer: a value stands there and the text goes on behind it; or no value stands there.
-- Assumes nothing.
use Rattle.std.specs.Prelude.{◌≡◌, false, List, ◌++◌, ℕ, suc, ◌^◌, ◌<◌, ℤ, pos, negsuc, Option, Some, None}
use Rattle.std.specs.Borrow.{Bor}
use Rattle.strided.specs.Text.{FitU, FitI}
use Rattle.laws.specs.Text.Numbers.{Digits, goes_on, value_from}
use Rattle.reading.specs.Here.{Finds}

-- numbers whose text is g: plain, or in a field
abbrev pub Reads : (ℕ → List ℕ) → List ℕ → Option (ℕ × Bor (List ℕ)) → Type 0
Reads g = Finds g FitU

abbrev pub ReadsSigned : (ℤ → List ℕ) → List ℕ → Option (ℤ × Bor (List ℕ)) → Type 0
ReadsSigned g = Finds g FitI

-- ---- inside

-- digits at the front of t, behind digits that say a: they all say v, which fits, and no digit follows
pub record More (a : ℕ) (t : List ℕ) (v : ℕ) (rest : List ℕ) : Type 0 where
  pub digits : List ℕ
  pub are : Digits digits
  pub form : t ≡ digits ++ rest
  pub value : v ≡ value_from a digits
  pub fits : FitU v
  pub stops : goes_on rest ≡ false

pub record ReadsMore (a : ℕ) (t : List ℕ) (r : Option (ℕ × Bor (List ℕ))) : Type 0 where
  pub value : (v : ℕ) (rest : Bor (List ℕ)) → r ≡ Some (v, rest) → More a t v rest.now
  pub bad : r ≡ None → (v : ℕ) (rest : List ℕ) → More a t v rest → ⊥

-- the number that `-` and the size n say, and that n says alone, if it is in its range
abbrev pub Minus : ℕ → Option ℤ → Type 0
Minus n (Some z) = (k : ℕ) × (n ≡ suc k) × (k < 2 ^ 63) × (z ≡ negsuc k)
Minus n None = (k : ℕ) → n ≡ suc k → k < 2 ^ 63 → ⊥

abbrev pub Plus : ℕ → Option ℤ → Type 0
Plus n (Some z) = (n < 2 ^ 63) × (z ≡ pos n)
Plus n None = n < 2 ^ 63 → ⊥
