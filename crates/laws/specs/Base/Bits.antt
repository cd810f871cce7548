-- Numbers as bits: signed ones as a local holds them, in 64 bits, and powers of two. Assumes nothing.
use Rattle.std.specs.Prelude.{◌≡◌, refl, ℕ, zero, suc, ◌-◌, ◌/◌, ◌%◌, ◌^◌, ◌≤◌, ◌<◌, eqb, ℤ, pos, negsuc, nat_abs}
use Rattle.std.proofs.Common.{sym, ap, ap₂, ◌∙◌, one-mul, lt_of_not-le, arith, pow_mono, to_z, of_z, to_z-of_z, ne_eqb}
use Rattle.std.specs.Int.Bits.{shifted_half, shifted_even}
use Rattle.std.specs.Int.Count.{under, count_trailing_zeros}
use Rattle.std.specs.Int.Signed.{mag}
use Rattle.std.specs.Int.{w64}

-- a number that was read from memory is the one that was stored
pub read_back : (z : ℤ) → mag z < 2 ^ 63 → to_z w64 (of_z w64 z) ≡ z
read_back z h = to_z-of_z {w = w64} (record { sfits = h })

-- a number is 0 exactly if its bits are, as a test `s == 0` compares
pub zero_bits : (s : ℤ) → mag s < 2 ^ 63 → eqb (nat_abs s) 0 ≡ eqb (of_z w64 s) 0
zero_bits (pos n) h = refl
zero_bits (negsuc k) h = ne_eqb (suc k) 0 (λ e. omega arith) ∙ sym (ne_eqb (2 ^ 64 - suc k) 0 (λ e. omega arith))

-- ---- powers of two

-- the zeros below its only set digit are the exponent
pub trailing_power : (m k : ℕ) → k < m → count_trailing_zeros m (2 ^ k) ≡ k
unfolding count_trailing_zeros
trailing_power zero k h = absurd (omega arith)
trailing_power (suc m) zero h = refl
trailing_power (suc m) (suc k) h =
    let even : 2 ^ suc k % 2 ≡ 0 = ap (λ (x : ℕ). x % 2) (sym (one-mul (2 ^ suc k))) ∙ shifted_even 1 k in
    let half : 2 ^ suc k / 2 ≡ 2 ^ k = ap (λ (x : ℕ). x / 2) (sym (one-mul (2 ^ suc k))) ∙ shifted_half 1 k ∙ one-mul (2 ^ k) in
    ap₂ (λ (d n : ℕ). under d (count_trailing_zeros m n)) even half ∙ ap suc (trailing_power m k (omega arith))

-- so that a shift by them divides and multiplies by it
pub power_zeros : (m n : ℕ) → (k : ℕ) × (n ≡ 2 ^ k) → n < 2 ^ m → (count_trailing_zeros m n < m) × (2 ^ count_trailing_zeros m n ≡ n)
power_zeros m n p h =
    let k : ℕ = p.0 in
    let e : n ≡ 2 ^ k = p.1 in
    let below : k < m = lt_of_not-le (λ (g : m ≤ k). omega (arith, pow_mono {i = m} {j = k} g)) in
    let z : count_trailing_zeros m n ≡ k = ap (count_trailing_zeros m) e ∙ trailing_power m k below in
    (omega arith, ap (λ (x : ℕ). 2 ^ x) z ∙ sym e)
