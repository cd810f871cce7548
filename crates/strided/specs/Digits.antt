-- Numbers of the walklist text as bytes of ASCII: "Decimal, no leading zeros, no "-0"".
-- Assumes nothing.
use Rattle.std.specs.Prelude.{Bool, true, false, List, [], ◌∷◌, ◌++◌, ℕ, zero, suc, ◌+◌, ◌/◌, ◌%◌, ltb, ℤ, pos, negsuc}

-- the digits of n, where those of the tenth part of n are what `front` makes of it
abbrev pub digits_by : Bool → ℕ → (ℕ → List ℕ) → List ℕ
digits_by true n front = (48 + n) ∷ []
digits_by false n front = front (n / 10) ++ ((48 + n % 10) ∷ [])

-- the digits of n, at most k of them
abbrev pub digits_in : ℕ → ℕ → List ℕ
digits_in zero n = []
digits_in (suc k) n = digits_by (ltb n 10) n (λ m. digits_in k m)

-- "no leading zeros": the first digit is not `0` unless n is 0. n has at most n + 1 digits
unfoldable pub digits_of : ℕ → List ℕ
digits_of n = digits_in (suc n) n

-- "no "-0"": `-` only in front of a number below 0
abbrev pub signed_of : ℤ → List ℕ
signed_of (pos n) = digits_of n
signed_of (negsuc k) = 45 ∷ digits_of (suc k)
