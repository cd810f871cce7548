-- Saturation at a cap: it may be done at each step or at the end; and what one operand adds to a region, saturated. Assumes nothing.
use Rattle.std.specs.Prelude.{◌≡◌, ℕ, zero, suc, ◌+◌, ◌*◌, ◌/◌, ◌<◌, ◌≤◌, min}
use Rattle.std.proofs.Common.{sym, ap, ap₂, ◌∙◌, ⊎_elim, mul-le-mul_right, mul-zero, le-mul_of_pos_right, mul_comm, le_of_lt, div-lt_iff_lt-mul, arith}
use Rattle.strided.specs.declared.Machine.{Machine}
use Rattle.laws.specs.Cut.Ranges.{le_or_lt}

-- "They and the load below are exact whole numbers; code may saturate above 65,536": above twice the record's cache
abbrev pub cap : Machine → ℕ
cap mc = 2 * mc.cache + 1

-- equal numbers, both saturated
pub capped : (n : ℕ) {x y : ℕ} → x ≡ y → min x n ≡ min y n
capped n e = ap (λ (z : ℕ). min z n) e

-- a product of saturated factors, saturated
pub min-mul-left : (a b n : ℕ) → min (min a n * b) n ≡ min (a * b) n
min-mul-left a zero n = ap (λ (x : ℕ). min x n) (mul-zero (min a n) ∙ sym (mul-zero a))
min-mul-left a (suc b) n = ⊎_elim
    (λ (h : a ≤ n). let e : min a n ≡ a = omega arith in ap (λ (x : ℕ). min (x * suc b) n) e)
    (λ (h : n < a). let e : min a n ≡ n = omega arith in
    ap (λ (x : ℕ). min (x * suc b) n) e
    ∙ omega (arith, le-mul_of_pos_right {m = suc b} n (omega arith), mul-le-mul_right (suc b) (le_of_lt h)))
    (le_or_lt a n)

pub min-mul-right : (a b n : ℕ) → min (a * min b n) n ≡ min (a * b) n
min-mul-right a b n = ap (λ (x : ℕ). min x n) (mul_comm a (min b n)) ∙ min-mul-left b a n ∙ ap (λ (x : ℕ). min x n) (mul_comm b a)

pub add_sat : (C T n : ℕ) {c t r : ℕ} → c ≡ min C n → t ≡ min T n → r ≡ min (c + t) n → r ≡ min (C + T) n
add_sat C T n hc ht hr = omega arith

-- the lines of a saturated C, of l bytes each, saturated: where C is above the cap, so are both
lines_cap : (l C n : ℕ) → 0 < l → min ((min C n / l + 1) * l) n ≡ min (l * (C / l + 1)) n
lines_cap l C n h = ⊎_elim
    (λ (q : C ≤ n). let e : min C n ≡ C = omega arith in ap (λ (x : ℕ). min ((x / l + 1) * l) n) e ∙ ap (λ (x : ℕ). min x n) (mul_comm (C / l + 1) l))
    (λ (q : n < C).
    let e : min C n ≡ n = omega arith in
    ap (λ (x : ℕ). min ((x / l + 1) * l) n) e
    ∙ omega (arith, above n, above C, mul_comm (C / l + 1) l))
    (le_or_lt C n)
  where
    -- a number is below the next multiple of l
    above : (x : ℕ) → x < (x / l + 1) * l
    above x = (div-lt_iff_lt-mul {k = l} {x = x} {y = x / l + 1} h).0 (omega arith)

-- the lines of a saturated C, times a saturated M
pub lines_sat : (l n c C m M s : ℕ) → 0 < l → c ≡ min C n → m ≡ min M n → s ≡ min (m * ((c / l + 1) * l)) n → s ≡ min (l * (C / l + 1) * M) n
lines_sat l n c C m M s h hc hm hs =
    let x : ℕ = (c / l + 1) * l in
    let e : min ((c / l + 1) * l) n ≡ min (l * (C / l + 1)) n = ap (λ (y : ℕ). min ((y / l + 1) * l) n) hc ∙ lines_cap l C n h in
    hs
    ∙ ap (λ (y : ℕ). min y n) (mul_comm m x)
    ∙ sym (min-mul-left x m n)
    ∙ ap₂ (λ (y z : ℕ). min (y * z) n) e hm
    ∙ min-mul-left (l * (C / l + 1)) (min M n) n
    ∙ min-mul-right (l * (C / l + 1)) M n
