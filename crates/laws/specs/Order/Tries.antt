-- The tries of the weights. "In the terms that enter a weight, every shift is below 64 and every product and sum is below 2^64" is one
-- test of each weight, `fits_is`; and with at most 8 operands some try succeeds, `always`. Assumes nothing.
use Rattle.std.specs.Prelude.{◌≡◌, Bool, ◌&&◌, ◌||◌, ltb, leb, eqb, ℤ, get_or, Option, None, Some, unwrap_or}
use Rattle.std.proofs.Math.Path.{refl, ap}
use Rattle.std.proofs.Common.{sym, ◌∙◌, ⊎_elim, mul-one, one-mul, mul-le-mul, mul-le-mul_left, lt_of_le_of_lt, pow_mono, pow_pos}
use Rattle.std.proofs.Math.Bool.{true, false, cond}
use mathlib.Core.List.{List, [], map}
use Prim.Native.Nat.{ℕ, zero, suc, ◌+◌, ◌-◌, ◌*◌, ◌^◌, ◌≤◌, ◌<◌, min}
use Rattle.std.proofs.Math.Nat.{min-le_right}
use native.Mathlib.Omega.{arith}
use Rattle.std.specs.Int.Count.{count_leading_zeros}
use Rattle.std.proofs.lemmas.Nat.{leading_top}
use Rattle.std.proofs.Math.ListN.{length}
use borrow.Author.Tests.{lt-ltb, le-ltb}
use Rattle.strided.specs.Base.{run, sum, every, first}
use Rattle.strided.specs.Weights.{packing_width, shift_of, term_of, size_at, rank_in, addend, weight_at, term_fits, sum_fits, axis_fits, try, cap_tries, width_tries, weights}
use Rattle.laws.specs.Base.Filling.{length-rows}
use Rattle.laws.specs.Base.Ranges.{below_or, sum_mono, term_le, sum_le, every_holds, every_fails}

-- ---- the packing width

pub packing_bounds : (operands : ℕ) → operands ≤ 8 → (1 ≤ packing_width operands) × (packing_width operands ≤ 4)
unfolding packing_width
packing_bounds operands h =
    let top = leading_top 64 (operands + 1) (omega arith) (omega arith) in
    let j = top.0 in
    let e : count_leading_zeros 64 (operands + 1) + suc j ≡ 64 = top.1 in
    let l : 2 ^ j ≤ operands + 1 = top.2 in
    let s : j < 4 = ⊎_elim (λ (g : j < 4). g) (λ (g : 4 ≤ j). absurd (omega (arith, pow_mono g, l, h))) (below_or j 4) in
    (omega (arith, e), omega (arith, e, s))

-- ---- the literal rule is one test

le_mul : (a b : ℕ) → 0 < b → a ≤ a * b
le_mul a b h = let g : a * 1 ≤ a * b = mul-le-mul_left a h in omega (arith, mul-one a)

module _ (es : List ℕ) (operands : ℕ) (ss : List ℤ) (lead : ℕ) where
  -- a nonzero term is no less than 1 shifted by its amount
  shift_le : (width cap i k : ℕ) → eqb (size_at es operands ss lead i k) 0 ≡ false
      → 2 ^ shift_of (length es) (rank_in es operands ss lead i k) width cap ≤ addend es operands ss lead width cap i k
  unfolding addend term_of
  shift_le width cap i k z = rw z (go (eqb k lead))
    where
      p : ℕ
      p = 2 ^ shift_of (length es) (rank_in es operands ss lead i k) width cap

      go : (t : Bool) → p ≤ p * cond t (2 ^ (width + 1)) 1
      go true = le_mul p (2 ^ (width + 1)) (pow_pos (width + 1))
      go false = rw mul-one (omega arith)

  -- a term of at most 2^64 - 1 is shifted by less than 64
  term_fits_lem : (width cap i k : ℕ) → addend es operands ss lead width cap i k < 2 ^ 64 → term_fits es operands ss lead width cap i k ≡ true
  unfolding term_fits
  term_fits_lem width cap i k h = go (eqb (size_at es operands ss lead i k) 0) refl
    where
      s : ℕ
      s = shift_of (length es) (rank_in es operands ss lead i k) width cap

      small : eqb (size_at es operands ss lead i k) 0 ≡ false → s < 64
      small z = ⊎_elim (λ (g : s < 64). g) (λ (g : 64 ≤ s). absurd (omega (arith, pow_mono g, shift_le width cap i k z, h))) (below_or s 64)

      go : (t : Bool) → eqb (size_at es operands ss lead i k) 0 ≡ t → (t || (ltb s 64 && ltb (addend es operands ss lead width cap i k) (2 ^ 64))) ≡ true
      go true z = refl
      go false z = rw (lt-ltb s 64 (small z), lt-ltb (addend es operands ss lead width cap i k) (2 ^ 64) h)

  all_fit : (width cap i : ℕ) → sum (addend es operands ss lead width cap i) 0 operands < 2 ^ 64
      → (every (term_fits es operands ss lead width cap i) 0 operands && every (sum_fits es operands ss lead width cap i) 0 operands) ≡ true
  unfolding sum_fits
  all_fit width cap i h =
      rw (
        every_holds (term_fits es operands ss lead width cap i) 0 operands
            (λ k l. term_fits_lem width cap i (0 + k) (lt_of_le_of_lt (term_le (addend es operands ss lead width cap i) 0 k operands l) h)),
        every_holds (sum_fits es operands ss lead width cap i) 0 operands
            (λ k l. let e : 0 + k ≡ k = omega arith in lt-ltb (sum (addend es operands ss lead width cap i) 0 (suc (0 + k))) (2 ^ 64) (rw e (lt_of_le_of_lt (sum_mono (addend es operands ss lead width cap i) 0 (suc k) operands l) h))),
      )

  some_not : (width cap i n : ℕ) → 2 ^ 64 ≤ sum (addend es operands ss lead width cap i) 0 n
      → (every (term_fits es operands ss lead width cap i) 0 n && every (sum_fits es operands ss lead width cap i) 0 n) ≡ false
  unfolding sum sum_fits
  some_not width cap i zero h = absurd (omega arith)
  some_not width cap i (suc n) h =
      let e : 0 + n ≡ n = omega arith in
      let f : sum_fits es operands ss lead width cap i (0 + n) ≡ false = rw e (le-ltb (sum (addend es operands ss lead width cap i) 0 (suc n)) (2 ^ 64) h) in
      rw (every_fails (sum_fits es operands ss lead width cap i) 0 (suc n) n (omega arith) f) (none_of (every (term_fits es operands ss lead width cap i) 0 (suc n)))
    where
      none_of : (t : Bool) → (t && false) ≡ false
      none_of true = refl
      none_of false = refl

  pub fits_is : (width cap i : ℕ) → axis_fits es operands ss lead width cap i ≡ ltb (weight_at es operands ss lead width cap i) (2 ^ 64)
  unfolding axis_fits weight_at
  fits_is width cap i = go (leb (get_or es i 0) 1)
    where
      S : ℕ
      S = sum (addend es operands ss lead width cap i) 0 operands

      go : (t : Bool) → (t || (every (term_fits es operands ss lead width cap i) 0 operands && every (sum_fits es operands ss lead width cap i) 0 operands)) ≡ ltb (cond t 0 S) (2 ^ 64)
      go true = sym (lt-ltb 0 (2 ^ 64) (omega arith))
      go false = ⊎_elim
          (λ (h : S < 2 ^ 64). all_fit width cap i h ∙ sym (lt-ltb S (2 ^ 64) h))
          (λ (h : 2 ^ 64 ≤ S). some_not width cap i operands h ∙ sym (le-ltb S (2 ^ 64) h))
          (below_or S (2 ^ 64))

  -- ---- some try succeeds

  -- there are weights, one for each axis
  pub record Found (m : Option (List ℕ)) : Type 0 where
    pub found : List ℕ
    pub is : m ≡ Some found
    pub long : length found ≡ length es

  -- a term at width 1 and cap 1
  small_term : (i k : ℕ) → addend es operands ss lead 1 1 i k ≤ 8
  unfolding addend term_of shift_of
  small_term i k = zero_or (eqb (size_at es operands ss lead i k) 0)
    where
      level : ℕ
      level = min (length es - rank_in es operands ss lead i k) 1

      small : 2 ^ (1 * level) ≤ 2
      small = pow_mono {j = 1} (rw one-mul (min-le_right (length es - rank_in es operands ss lead i k) 1))

      factor : (t : Bool) → cond t (2 ^ (1 + 1)) 1 ≤ 4
      factor true = omega arith
      factor false = omega arith

      zero_or : (t : Bool) → cond t 0 (2 ^ (1 * level) * cond (eqb k lead) (2 ^ (1 + 1)) 1) ≤ 8
      zero_or true = omega arith
      zero_or false = mul-le-mul small (factor (eqb k lead))

  module _ (few : operands ≤ 8) where
    small_weight : (i : ℕ) → weight_at es operands ss lead 1 1 i < 2 ^ 64
    unfolding weight_at
    small_weight i = go (leb (get_or es i 0) 1)
      where
        go : (t : Bool) → cond t 0 (sum (addend es operands ss lead 1 1 i) 0 operands) < 2 ^ 64
        go true = omega arith
        go false = omega (arith, sum_le (addend es operands ss lead 1 1 i) 0 8 operands (small_term i))

    last_try : Found (try es operands ss lead 1 1)
    unfolding try
    last_try =
        let ws = map (weight_at es operands ss lead 1 1) (run 0 (length es)) in
        record {
          found = ws;
          is = rw (every_holds (axis_fits es operands ss lead 1 1) 0 (length es)
              (λ k l. fits_is 1 1 (0 + k) ∙ lt-ltb (weight_at es operands ss lead 1 1 (0 + k)) (2 ^ 64) (small_weight (0 + k))));
          long = length-rows (weight_at es operands ss lead 1 1) 0 (length es);
        }

    -- a try, and then what is found without it
    or_found : (width cap : ℕ) (m : Option (List ℕ)) → Found m → Found (first (try es operands ss lead width cap) m)
    unfolding try
    or_found width cap m f = go (every (axis_fits es operands ss lead width cap) 0 (length es))
      where
        ws : List ℕ
        ws = map (weight_at es operands ss lead width cap) (run 0 (length es))

        go : (t : Bool) → Found (first (cond t (Some ws) None) m)
        go true = record { found = ws; is = refl; long = length-rows (weight_at es operands ss lead width cap) 0 (length es) }
        go false = f

    pub caps_found : (n : ℕ) → Found (cap_tries es operands ss lead (suc n))
    unfolding cap_tries
    caps_found zero = last
      where
        last : Found (first (try es operands ss lead 1 1) None)
        last = let f = last_try in record { found = f.found; is = ap (λ (m : Option (List ℕ)). first m None) f.is; long = f.long }
    caps_found (suc n) = or_found 1 (suc (suc n)) (cap_tries es operands ss lead (suc n)) (caps_found n)

    pub widths_found : (n : ℕ) → Found (width_tries es operands ss lead n)
    unfolding width_tries
    widths_found zero = caps_found 62
    widths_found (suc n) = or_found (suc n) (length es) (width_tries es operands ss lead n) (widths_found n)

    -- "With at most 8 operands one always does."
    pub always : Found (width_tries es operands ss lead (packing_width operands))
    always = widths_found (packing_width operands)

    -- so the empty list in `weights` is never met
    pub weights_long : length (weights es operands ss lead) ≡ length es
    unfolding weights
    weights_long = ap (λ (m : Option (List ℕ)). length (unwrap_or m [])) always.is ∙ always.long
