-- Signed numbers as the checks ask for them. A signed local holds bits, so a goal has `to_z w64 (of_z w64 z)` where the code has z: `back`
-- takes it off. Assumes nothing.
use Rattle.std.specs.Prelude.{◌≡◌, refl, true, false, ◌<◌, ℤ, pos, negsuc, nat_abs}
use Rattle.std.proofs.Common.{sym, ◌∙◌, arith, SFits, to_z, of_z, to_z-of_z, ltb-true, eq-eqb, ne_eqb, eqb-true}
use Rattle.std.proofs.lemmas.Bool.{false≢true, eqb-false}
use Rattle.std.specs.Int.Signed.{mag, lt_z}
use Rattle.std.specs.Int.{w64}
use Rattle.laws.specs.Base.Bits.{zero_bits}

-- the bits of z, read back
pub back : (z : ℤ) → SFits w64 z → to_z w64 (of_z w64 z) ≡ z
back z f = to_z-of_z f

-- a test for being negative, passed and failed
pub is_neg : (z : ℤ) → lt_z z (pos 0) ≡ true → z ≡ negsuc (mag z)
is_neg (pos n) t = absurd (below-zero (ltb-true n 0 t))
  where
    below-zero : n < 0 → ⊥
    below-zero h = omega arith
is_neg (negsuc n) t = refl

pub is_pos : (z : ℤ) → lt_z z (pos 0) ≡ false → z ≡ pos (mag z)
is_pos (pos n) t = refl
is_pos (negsuc n) t = absurd (false≢true (sym t))

-- a test for being 0, passed and failed
module _ (z : ℤ) (f : SFits w64 z) where
  pub size_zero : of_z w64 z ≡ 0 → nat_abs z ≡ 0
  size_zero h = eqb-true (nat_abs z) 0 (zero_bits z f.sfits ∙ eq-eqb (of_z w64 z) 0 h)

  pub size_some : (of_z w64 z ≡ 0 → ⊥) → 0 < nat_abs z
  size_some h =
      let q : nat_abs z ≡ 0 → ⊥ = eqb-false (nat_abs z) 0 (zero_bits z f.sfits ∙ ne_eqb (of_z w64 z) 0 h) in
      omega arith
