-- "If all cells are whole numbers whose sizes, so counted, total at most 2^53, the sum equals the exact one": which floats are whole numbers,
-- their sizes and their exact sum.
-- Assumes nothing.
use Rattle.std.specs.Prelude.{◌≡◌, Bool, true, false, List, [], ◌∷◌, ℕ, ◌+◌, ◌*◌, ℤ, pos, neg_ℤ, nat_abs, ◌+ℤ◌, Float}
use Rattle.std.specs.Float.{nan, inf, fin}
use Rattle.std.specs.Float.Ieee.{up, down}

-- the number n, negative where s is true
abbrev pub signed : Bool → ℕ → ℤ
signed false n = pos n
signed true n = neg_ℤ (pos n)

-- x is the float of the integer z: its value is z exactly. Either zero is 0
abbrev pub Whole : Float → ℤ → Type 0
Whole nan z = ⊥
Whole (inf s) z = ⊥
Whole (fin s m e) z = (m * up e ≡ nat_abs z * down e) × (signed s (nat_abs z) ≡ z)

-- the cells, one by one, are those integers
abbrev pub Wholes : List Float → List ℤ → Type 0
Wholes [] [] = Unit {0}
Wholes [] (z ∷ zs) = ⊥
Wholes (x ∷ xs) [] = ⊥
Wholes (x ∷ xs) (z ∷ zs) = Whole x z × Wholes xs zs

-- their sizes in all, each counted as often as its cell is met
abbrev pub sizes_of : List ℤ → ℕ
sizes_of [] = 0
sizes_of (z ∷ zs) = nat_abs z + sizes_of zs

-- and their exact sum
abbrev pub exact_sum : List ℤ → ℤ
exact_sum [] = pos 0
exact_sum (z ∷ zs) = z +ℤ exact_sum zs
