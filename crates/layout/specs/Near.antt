-- Numbers whose sizes are below a bound, as extents and strides that are small enough for every reach to be below 2^63. Assumes nothing.
use Rattle.std.specs.Prelude.{◌≡◌, Bool, ◌&&◌, List, [], ◌∷◌, ℕ, ltb, eqb, ℤ, nat_abs}
use Rattle.std.specs.List.{list_all}
use mathlib.Core.Path.{refl, ap}
use Rattle.strided.specs.Step.{blank, blank_z}

-- every number's size is below m
abbrev pub all_below : {A : Type 0} → (A → ℕ) → ℕ → List A → Bool
all_below size m xs = list_all (λ x. ltb (size x) m) xs

-- 0 alone, told number by number
pub blank_all : (xs : List ℕ) → list_all (λ x. eqb x 0) xs ≡ blank xs
blank_all [] = refl
blank_all (x ∷ xs) = ap (λ b. eqb x 0 && b) (blank_all xs)

pub blank_z_all : (zs : List ℤ) → list_all (λ z. eqb (nat_abs z) 0) zs ≡ blank_z zs
blank_z_all [] = refl
blank_z_all (z ∷ zs) = ap (λ b. eqb (nat_abs z) 0 && b) (blank_z_all zs)
