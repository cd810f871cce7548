-- How many bytes the numbers of the walklist text take: the digits of a number by its last digit, and the most that 64 bits take.
-- Assumes nothing.
use Rattle.std.specs.Prelude.{◌≡◌, List, [], ◌∷◌, ◌++◌, ℕ, zero, suc, ◌+◌, ◌*◌, ◌/◌, ◌%◌, ◌^◌, ◌≤◌, ◌<◌, ltb, ℤ, pos, negsuc, length}
use Rattle.std.proofs.Common.{sym, ap, ◌∙◌, ⊎_elim, not-suc-le-zero, arith, length-append, lt-ltb, le-ltb}
use Rattle.std.proofs.Math.Nat.{pow-succ'}
use Rattle.std.specs.Int.Signed.{mag}
use Rattle.strided.specs.Digits.{digits_by, digits_in, digits_of, signed_of}
use Rattle.laws.specs.Base.Ranges.{below_or}

-- ---- the digits by the last digit

by_small : (n : ℕ) (f : ℕ → List ℕ) → n < 10 → digits_by (ltb n 10) n f ≡ (48 + n) ∷ []
by_small n f h = rw (lt-ltb n 10 h)

by_big : (n : ℕ) (f : ℕ → List ℕ) → 10 ≤ n → digits_by (ltb n 10) n f ≡ f (n / 10) ++ ((48 + n % 10) ∷ [])
by_big n f h = rw (le-ltb n 10 h)

-- a count beyond n makes no difference
enough : (k j n : ℕ) → n < k → n < j → digits_in k n ≡ digits_in j n
enough zero j n h g = absurd (not-suc-le-zero h)
enough (suc k) zero n h g = absurd (not-suc-le-zero g)
enough (suc k) (suc j) n h g =
    ⊎_elim
    (λ small. by_small n _ small ∙ sym (by_small n _ small))
    (λ big. by_big n _ big
    ∙ ap (λ (l : List ℕ). l ++ ((48 + n % 10) ∷ [])) (enough k j (n / 10) (omega arith) (omega arith))
    ∙ sym (by_big n _ big))
    (below_or n 10)

pub digits_small : (n : ℕ) → n < 10 → digits_of n ≡ (48 + n) ∷ []
unfolding digits_of
digits_small n h = by_small n _ h

pub digits_big : (n : ℕ) → 10 ≤ n → digits_of n ≡ digits_of (n / 10) ++ ((48 + n % 10) ∷ [])
unfolding digits_of
digits_big n h = by_big n _ h ∙ ap (λ (l : List ℕ). l ++ ((48 + n % 10) ∷ [])) (enough n (suc (n / 10)) (n / 10) (omega arith) (omega arith))

-- ---- how many

pub length_small : (n : ℕ) → n < 10 → length (digits_of n) ≡ 1
length_small n h = ap length (digits_small n h)

pub length_big : (n : ℕ) → 10 ≤ n → length (digits_of n) ≡ length (digits_of (n / 10)) + 1
length_big n h = ap length (digits_big n h) ∙ length-append (digits_of (n / 10)) _

-- below a power of 10
digits_below : (k n : ℕ) → n < 10 ^ suc k → length (digits_of n) ≤ suc k
digits_below zero n h = omega (arith, length_small n h)
digits_below (suc k) n h = go (digits_below k (n / 10))
  where
    go : (n / 10 < 10 ^ suc k → length (digits_of (n / 10)) ≤ suc k) → length (digits_of n) ≤ suc (suc k)
    go ih =
        ⊎_elim
        (λ g. let l = length_small n g in omega arith)
        (λ g.
        let p : n < 10 * 10 ^ suc k = rw (pow-succ' 10 (suc k)) at h in
        let l = length_big n g in
        let m = ih (omega arith) in
        omega arith)
        (below_or n 10)

-- 20 digits at most, and 19 with a sign
pub digits_most : (n : ℕ) → n < 2 ^ 64 → length (digits_of n) ≤ 20
digits_most n h = digits_below 19 n (omega arith)

pub signed-most : (z : ℤ) → mag z < 2 ^ 63 → length (signed_of z) ≤ 20
signed-most (pos n) h = let p = digits_below 18 n (omega arith) in omega arith
signed-most (negsuc k) h = let p = digits_below 18 (suc k) (omega arith) in omega arith
