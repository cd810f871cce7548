-- A stride 0 on an axis of more than one index: two indices share an offset. Assumes nothing.
use Rattle.std.specs.Prelude.{◌≡◌, List, [], ◌∷◌, ℕ, zero, suc, ◌<◌, ℤ, length, get_or}
use Rattle.std.proofs.Common.{arith}
use Rattle.strided.specs.Layout.{Within, NoZero}
use Rattle.strided.specs.Mark.{Shared}
use Rattle.laws.specs.Mark.Sizes.{Near, near-later, size_at}
use Rattle.laws.specs.Mark.Mirror.{near-shared}

-- the first index
first : List ℕ → List ℕ
first [] = []
first (e ∷ es) = 0 ∷ first es

first_in : (es : List ℕ) → NoZero es → Within es (first es)
unfolding first
first_in [] z = tt
first_in (e ∷ es) z = (z.0, first_in es z.1)

near-still : (es : List ℕ) (ts : List ℤ) (i : ℕ) → length ts ≡ length es → NoZero es → i < length es → 1 < get_or es i 0 → size_at ts i ≡ 0 → Near es ts
near-still [] ts i l z h p q = absurd (omega arith)
near-still (e ∷ es) [] i l z h p q = absurd (omega arith)
near-still (e ∷ es) (t ∷ ts) zero l z h p q = record {
  one = 0 ∷ first es;
  other = 1 ∷ first es;
  one_in = (omega arith, first_in es z.1);
  other_in = (p, first_in es z.1);
  differ = λ e. let g : ◌≡◌ {A = ℕ} 0 1 = cc in absurd (omega arith);
  same = omega (arith, q);
}
near-still (e ∷ es) (t ∷ ts) (suc i) l z h p q = near-later e es t ts z.0 (near-still es ts i (omega arith) z.1 (omega arith) p q)

-- THE QUICK YES
pub still-shared : (es : List ℕ) (ts : List ℤ) (i : ℕ) → length ts ≡ length es → NoZero es → i < length es → 1 < get_or es i 0 → size_at ts i ≡ 0 → Shared es ts
still-shared es ts i l z h p q = near-shared es ts l (near-still es ts i l z h p q)
