-- What stands in the plan's tables: byte strides and costs axis by axis, that 0 says none, and that scores fit 64 bits where reaches fit 63. Assumes nothing.
use Rattle.std.specs.Prelude.{◌≡◌, refl, true, false, List, [], ◌∷◌, ◌++◌, map, ◌⊎◌, ℕ, zero, suc, ◌+◌, ◌-◌, ◌*◌, ◌^◌, ◌≤◌, ◌<◌, min, ℤ, pos, nat_abs, get_or, take, drop, None, Some}
use Rattle.std.proofs.Common.{sym, ap, ◌∙◌, ⊎_elim, inl, inr, eq-zero-or-pos, zero-add, suc-add, mul-zero, zero-mul, mul-one, mul-le-mul_left, mul_left_comm, arith, get_or-drop}
use Rattle.std.proofs.Math.Dec.{eqb}
use borrow.Author.Tests.{eq-eqb, ne_eqb}
use Rattle.strided.specs.Base.{sum, least}
use Rattle.strided.specs.Layout.{reach, max_i}
use Rattle.strided.specs.Region.{byte_table, byte_at}
use Rattle.strided.specs.Costs.{still, cost_of, cost_number, costs}
use Rattle.strided.specs.Cut.{score}
use Rattle.laws.specs.Base.Lists.{get_d_run}
use Rattle.laws.specs.Base.Ranges.{every_holds, every_fails}
use Rattle.laws.specs.Cut.Ranges.{true_or_false, least_in, sum_none, sum_cong, term_in}
use Rattle.laws.specs.Cut.Steps.{ScoresFit}

-- the size of operand k's stride on axis i
abbrev pub stride_size : List ℤ → ℕ → ℕ → ℕ
stride_size strides k i = nat_abs (get_or strides (k * 64 + i) (pos 0))

-- ---- a byte stride, in a table of any length: where a stride is missing both sides are 0

-- a row of n numbers made from strides, and what is made from the strides behind them
module _ (f : ℤ → ℕ) (nought : f (pos 0) ≡ 0) (g : List ℤ → List ℕ) (empty : g [] ≡ []) where
  in_row : (n : ℕ) (xs : List ℤ) (i : ℕ) → i < n → get_or (map f (take n xs) ++ g (drop n xs)) i 0 ≡ f (get_or xs i (pos 0))
  in_row zero xs i h = absurd (omega arith)
  in_row (suc n) [] i h = ap (λ (l : List ℕ). get_or l i 0) empty ∙ sym nought
  in_row (suc n) (x ∷ xs) zero h = refl
  in_row (suc n) (x ∷ xs) (suc i) h = in_row n xs i (omega arith)

  behind_row : (n : ℕ) (xs : List ℤ) (i : ℕ) → get_or (map f (take n xs) ++ g (drop n xs)) (n + i) 0 ≡ get_or (g (drop n xs)) i 0
  behind_row zero xs i = ap (λ (j : ℕ). get_or (g xs) j 0) (zero-add i)
  behind_row (suc n) [] i = ap (λ (l : List ℕ). get_or l (suc n + i) 0) empty ∙ sym (ap (λ (l : List ℕ). get_or l i 0) empty)
  behind_row (suc n) (x ∷ xs) i =
      ap (λ (j : ℕ). get_or (map f (take (suc n) (x ∷ xs)) ++ g (drop n xs)) j 0) (suc-add n i) ∙ behind_row n xs i

no_strides : (sizes : List ℕ) → byte_table sizes [] ≡ []
no_strides [] = refl
no_strides (z ∷ sizes) = no_strides sizes

pub byte_at_lem : (sizes : List ℕ) (strides : List ℤ) (k i : ℕ) → i < 64 → byte_at (byte_table sizes strides) k i ≡ stride_size strides k i * get_or sizes k 0
byte_at_lem [] strides k i h = sym (mul-zero (stride_size strides k i))
byte_at_lem (z ∷ sizes) strides zero i h =
    let e : 0 * 64 + i ≡ i = omega arith in
    ap (λ (j : ℕ). get_or (byte_table (z ∷ sizes) strides) j 0) e
    ∙ in_row (λ t. nat_abs t * z) (zero-mul z) (byte_table sizes) (no_strides sizes) 64 strides i h
    ∙ ap (λ (j : ℕ). nat_abs (get_or strides j (pos 0)) * z) (sym e)
byte_at_lem (z ∷ sizes) strides (suc k) i h =
    let e : suc k * 64 + i ≡ 64 + (k * 64 + i) = omega arith in
    ap (λ (j : ℕ). get_or (byte_table (z ∷ sizes) strides) j 0) e
    ∙ behind_row (λ t. nat_abs t * z) (zero-mul z) (byte_table sizes) (no_strides sizes) 64 strides (k * 64 + i)
    ∙ byte_at_lem sizes (drop 64 strides) k i h
    ∙ ap (λ (t : ℤ). nat_abs t * get_or sizes k 0) (get_or-drop 64 strides (k * 64 + i) (pos 0) ∙ ap (λ (j : ℕ). get_or strides j (pos 0)) (sym e))

-- ---- costs and scores

pub cost_at : (strides : List ℤ) (operands rank i : ℕ) → i < rank
    → get_or (costs strides operands rank) i 0 ≡ cost_number (cost_of (λ k. stride_size strides k i) operands)
unfolding costs
cost_at strides operands rank i h =
    get_d_run (λ i. cost_number (cost_of (λ k. stride_size strides k i) operands)) 0 rank 0 i h
    ∙ ap (λ (j : ℕ). cost_number (cost_of (λ k. stride_size strides k j) operands)) (zero-add i)

-- the three costs: none, 1, and twice the least stride size
module _ (size : ℕ → ℕ) (operands : ℕ) where
  pub cost_none : still size operands ≡ true → cost_of size operands ≡ None
  unfolding cost_of
  cost_none e = rw e

  pub cost_one : still size operands ≡ false → least size 0 operands ≡ 0 → cost_of size operands ≡ Some 1
  unfolding cost_of
  cost_one e m = rw (e, eq-eqb (least size 0 operands) 0 m)

  pub cost_twice : still size operands ≡ false → (least size 0 operands ≡ 0 → ⊥) → cost_of size operands ≡ Some (min (2 * least size 0 operands) (2 ^ 63 - 1))
  unfolding cost_of
  cost_twice e m = rw (e, ne_eqb (least size 0 operands) 0 m)

  -- 0 SAYS NONE: no other cost is 0
  pub cost_zero : cost_number (cost_of size operands) ≡ 0 → cost_of size operands ≡ None
  cost_zero z = ⊎_elim
      (λ e. cost_none e)
      (λ e. ⊎_elim
      (λ (m : least size 0 operands ≡ 0). absurd (omega (arith, ap cost_number (cost_one e m), z)))
      (λ (m : 0 < least size 0 operands). absurd (omega (arith, ap cost_number (cost_twice e (λ q. omega arith)), z)))
      (eq-zero-or-pos (least size 0 operands)))
      (true_or_false (still size operands))

  -- a cost is at most 1, or at most twice the least stride size
  cost_le : (cost_number (cost_of size operands) ≤ 1) ⊎ (cost_number (cost_of size operands) ≤ 2 * least size 0 operands)
  cost_le = ⊎_elim
      (λ e. inl (omega (arith, ap cost_number (cost_none e))))
      (λ e. ⊎_elim
      (λ (m : least size 0 operands ≡ 0). inl (omega (arith, ap cost_number (cost_one e m))))
      (λ (m : 0 < least size 0 operands). inr (omega (arith, ap cost_number (cost_twice e (λ q. omega arith)))))
      (eq-zero-or-pos (least size 0 operands)))
      (true_or_false (still size operands))

-- nobody moves along an axis exactly if every stride there is 0
module _ (size : ℕ → ℕ) (operands : ℕ) where
  pub still_each : ((k : ℕ) → k < operands → size k ≡ 0) → still size operands ≡ true
  unfolding still
  still_each h = every_holds (λ k. eqb (size k) 0) 0 operands (λ k l. eq-eqb (size (0 + k)) 0 (ap size (zero-add k) ∙ h k l))

  pub still-not : (k : ℕ) → k < operands → (size k ≡ 0 → ⊥) → still size operands ≡ false
  unfolding still
  still-not k l n = every_fails (λ k. eqb (size k) 0) 0 operands k l (ne_eqb (size (0 + k)) 0 (λ e. n (ap size (sym (zero-add k)) ∙ e)))

-- so that the reach of the first operand bounds every score
score_fits : (es : List ℕ) (strides : List ℤ) (operands rank i : ℕ) → 0 < operands → i < rank → get_or es i 0 < 2 ^ 64
    → sum (λ j. (get_or es j 0 - 1) * stride_size strides 0 j) 0 rank < 2 ^ 63
    → score es (costs strides operands rank) i < 2 ^ 64
score_fits es strides operands rank i one h fits reach =
    let c : ℕ = cost_number (cost_of (λ k. stride_size strides k i) operands) in
    let s : ℕ = stride_size strides 0 i in
    let e : ℕ = get_or es i 0 - 1 in
    let is : score es (costs strides operands rank) i ≡ e * c = ap (λ (c : ℕ). e * c) (cost_at strides operands rank i h) in
    ⊎_elim
    (λ (q : c ≤ 1). omega (arith, is, mul-le-mul_left e q, mul-one e))
    (λ (q : c ≤ 2 * least (λ k. stride_size strides k i) 0 operands).
    let l : least (λ k. stride_size strides k i) 0 operands ≤ s = least_in (λ k. stride_size strides k i) 0 operands 0 (omega arith) (omega arith) in
    let l' : c ≤ 2 * s = omega arith in
    omega (
      arith,
      is,
      mul-le-mul_left e l',
      mul_left_comm e 2 s,
      term_in (λ j. (get_or es j 0 - 1) * stride_size strides 0 j) 0 rank i (omega arith) (omega arith),
    ))
    (cost_le (λ k. stride_size strides k i) operands)

-- ---- an operand's reach, as a sum over the axes

sum-front : (f : ℕ → ℕ) (n : ℕ) → sum f 0 (suc n) ≡ f 0 + sum (λ i. f (suc i)) 0 n
unfolding sum
sum-front f zero = omega arith
sum-front f (suc n) =
    let e : 0 + suc n ≡ suc (0 + n) = omega arith in
    omega (arith, sum-front f n, ap f e)

sum_zeros : (f : ℕ → ℕ) (n : ℕ) → ((i : ℕ) → f i ≡ 0) → sum f 0 n ≡ 0
unfolding sum
sum_zeros f zero h = refl
sum_zeros f (suc n) h = omega (arith, sum_zeros f n h, h (0 + n))

-- lists of any length: an axis that is missing spans 0
reach-from : (n : ℕ) (es : List ℕ) (ts : List ℤ) → reach (take n es) (take n ts) ≡ sum (λ i. (get_or es i 0 - 1) * nat_abs (get_or ts i (pos 0))) 0 n
reach-from zero es ts = sym (sum_none (λ i. (get_or es i 0 - 1) * nat_abs (get_or ts i (pos 0))) 0)
reach-from (suc n) [] ts = sym (sum_zeros (λ i. (get_or {A = ℕ} [] i 0 - 1) * nat_abs (get_or ts i (pos 0))) (suc n) (λ i. zero-mul (nat_abs (get_or ts i (pos 0)))))
reach-from (suc n) (e ∷ es) [] = sym (sum_zeros (λ i. (get_or (e ∷ es) i 0 - 1) * nat_abs (get_or {A = ℤ} [] i (pos 0))) (suc n) (λ i. mul-zero (get_or (e ∷ es) i 0 - 1)))
reach-from (suc n) (e ∷ es) (t ∷ ts) =
    ap (λ (x : ℕ). (e - 1) * nat_abs t + x) (reach-from n es ts)
    ∙ sym (sum-front (λ i. (get_or (e ∷ es) i 0 - 1) * nat_abs (get_or (t ∷ ts) i (pos 0))) n)

pub reach-sum : (es : List ℕ) (strides : List ℤ) (rank k : ℕ)
    → reach (take rank es) (take rank (drop (k * 64) strides)) ≡ sum (λ i. (get_or es i 0 - 1) * stride_size strides k i) 0 rank
reach-sum es strides rank k =
    reach-from rank es (drop (k * 64) strides)
    ∙ sum_cong (λ i. (get_or es i 0 - 1) * nat_abs (get_or (drop (k * 64) strides) i (pos 0))) (λ i. (get_or es i 0 - 1) * stride_size strides k i) 0 rank
    (λ i p q. ap (λ (t : ℤ). (get_or es i 0 - 1) * nat_abs t) (get_or-drop (k * 64) strides i (pos 0)))

-- ---- scores need row 6 only, on the plan's axes

pub scores_fit : (es : List ℕ) (strides : List ℤ) (operands rank : ℕ) → 0 < operands
    → ((i : ℕ) → i < rank → get_or es i 0 < 2 ^ 64)
    → ((k : ℕ) → k < operands → reach (take rank es) (take rank (drop (k * 64) strides)) ≤ max_i)
    → ScoresFit rank (costs strides operands rank) es
scores_fit es strides operands rank one fits near i h =
    score_fits es strides operands rank i one h (fits i h) (omega (arith, near 0 one, reach-sum es strides rank 0))
