-- A SUM OF WHOLE NUMBERS whose sizes total at most 2^53 is the exact one: no addition of it rounds. Assumes nothing.
use Rattle.std.specs.Prelude.{◌≡◌, refl, Bool, true, false, not, cond, ◌&&◌, List, [], ◌∷◌, ℕ, zero, suc, ◌+◌, ◌-◌, ◌*◌, ◌^◌, ◌≤◌, ◌<◌, ℤ, pos, negsuc, nat_abs, ◌+ℤ◌, T, ltb, Float}
use Rattle.std.proofs.Common.{sym, ap, ◌∙◌, zero-le, mul-one, mul_comm, mul_assoc, add-mul, zero-lt-suc, mul-pos, mul-lt-mul_of_pos_right, mul-le-mul_right, le_refl, le_trans, arith, lt-ltb, le-ltb, ltb→lt, nltb→le}
use Rattle.std.proofs.Math.Nat.{mul-sub, eq_of_mul-eq-mul_right}
use Rattle.std.proofs.Math.IntN.{+ℤ_assoc, +ℤ_idr, +ℤ_idl}
use Rattle.std.specs.Float.{nan, inf, fin, binary64}
use Rattle.std.specs.Float.Ieee.{up, down, round, sum, add, of_int}
use Rattle.std.specs.Float.Ieee.Fits.{down_pos}
use Rattle.std.specs.Float.Ieee.Exact.{HasValue}
use Rattle.std.specs.Float.Ieee.Back.{round_whole}
use Rattle.std.specs.Float.Ieee.Scale.{round_same}
use Rattle.summary.specs.declared.cell.Summary.{Summary}
use Rattle.summary.specs.Sums.{plus_zero, nothing_met, with_cell, with_cells, summary_of}
use Rattle.summary.proofs.Steps.{step_sum}
use Rattle.summary.specs.Whole.{signed, Whole, Wholes, sizes_of, exact_sum}

-- ---- a sum over a common divisor

at_one : (s : Bool) (num C k : ℕ) → 0 < C → num ≡ k * C → round binary64 s num C ≡ round binary64 s k 1
at_one s num C k p h = round_same binary64 s num C k 1 p (zero-lt-suc 0) (mul-one num ∙ h)

sub-over : (p q C : ℕ) → p * C - q * C ≡ (p - q) * C
sub-over p q C = cc (mul_comm p C, mul_comm q C, mul_comm (p - q) C, mul-sub C p q)

ltb-over : (p q C : ℕ) → 0 < C → ltb (p * C) (q * C) ≡ ltb p q
ltb-over p q C h = go (ltb p q) (ltb→lt p q) (nltb→le p q)
  where
    go : (b : Bool) → (T b → p < q) → (T (not b) → q ≤ p) → ltb (p * C) (q * C) ≡ b
    go true f g = lt-ltb (p * C) (q * C) (mul-lt-mul_of_pos_right (f tt) h)
    go false f g = le-ltb (p * C) (q * C) (mul-le-mul_right C (g tt))

sum_over : (s : Bool) (p : ℕ) (t : Bool) (q C : ℕ) → 0 < C → sum binary64 s (p * C) t (q * C) C ≡ sum binary64 s p t q 1
unfolding sum
sum_over s p t q C h =
    let a = at_one s (p * C + q * C) C (p + q) h (sym (add-mul p q C)) in
    let b = at_one t (q * C - p * C) C (q - p) h (sub-over q p C) in
    let d = at_one (s && ltb q p) (p * C - q * C) C (p - q) h (sub-over p q C) in
    rw (ltb-over p q C h, ltb-over q p C h, a, b, d)

-- ---- the sum of two whole numbers, the first with the sign that its integer has

abbrev below : ℤ → Bool
below (pos n) = false
below (negsuc n) = true

of_int_is : (a : ℤ) → of_int binary64 a ≡ round binary64 (below a) (nat_abs a) 1
unfolding of_int
of_int_is (pos n) = refl
of_int_is (negsuc n) = refl

alike : (s : Bool) (a b : ℕ) → a ≡ b → round binary64 s a 1 ≡ round binary64 s b 1
alike s a b e = ap (λ (n : ℕ). round binary64 s n 1) e

less_more : (b : Bool) (p q : ℕ) → (T b → p < q)
    → cond b (round binary64 true (q - p) 1) (round binary64 false (p - q) 1) ≡ of_int binary64 (cond b (negsuc (q - suc p)) (pos (p - q)))
unfolding of_int
less_more true p q f = let h = f tt in alike true (q - p) (suc (q - suc p)) (omega arith)
less_more false p q f = refl

more_less : (b d : Bool) (p q : ℕ) → (T b → p < q) → (T (not b) → q ≤ p) → (T d → q < p) → (T (not d) → p ≤ q)
    → cond b (round binary64 false (q - p) 1) (round binary64 d (p - q) 1) ≡ of_int binary64 (cond d (negsuc (p - suc q)) (pos (q - p)))
unfolding of_int
more_less true true p q f f' g g' = let h = f tt in let k = g tt in absurd (omega arith)
more_less true false p q f f' g g' = refl
more_less false true p q f f' g g' = let h = g tt in alike true (p - q) (suc (p - suc q)) (omega arith)
more_less false false p q f f' g g' = let h = f' tt in let k = g' tt in alike false (p - q) (q - p) (omega arith)

sum_int : (a : ℤ) (t : Bool) (q : ℕ) → sum binary64 (below a) (nat_abs a) t q 1 ≡ of_int binary64 (a +ℤ signed t q)
unfolding sum of_int
sum_int (pos p) false q = refl
sum_int (pos p) true zero = rw (le-ltb p 0 zero-le) (alike false (p - 0) (p + 0) (omega arith))
sum_int (pos p) true (suc q) = less_more (ltb p (suc q)) p (suc q) (ltb→lt p (suc q))
sum_int (negsuc k) false q =
    more_less (ltb (suc k) q) (ltb q (suc k)) (suc k) q (ltb→lt (suc k) q) (nltb→le (suc k) q) (ltb→lt q (suc k)) (nltb→le q (suc k))
sum_int (negsuc k) true zero = rw (lt-ltb 0 (suc k) (zero-lt-suc k)) (alike true (suc k + 0) (suc (suc k - 1)) (omega arith))
sum_int (negsuc k) true (suc q) = alike true (suc k + suc q) (suc (suc (k + q))) (omega arith)

-- ---- two floats with whole values

add_val : (x y : Float) (s t : Bool) (p q : ℕ) → HasValue x s p 1 → HasValue y t q 1 → add binary64 x y ≡ sum binary64 s p t q 1
unfolding add
add_val nan y s t p q v w = elim v [ ]
add_val (inf b) y s t p q v w = elim v [ ]
add_val (fin s' m e) nan s t p q v w = elim w [ ]
add_val (fin s' m e) (inf b) s t p q v w = elim w [ ]
add_val (fin s' m e) (fin t' n d) s t p q v w =
    let a : m * up e * down d ≡ p * (down e * down d) = cc (mul-one (m * up e), v.1, mul_assoc p (down e) (down d)) in
    let b : n * up d * down e ≡ q * (down e * down d) = cc (mul-one (n * up d), w.1, mul_assoc q (down d) (down e), mul_comm (down d) (down e)) in
    rw (a, b, v.0, w.0) (sum_over s p t q (down e * down d) (mul-pos (down_pos e) (down_pos d)))

of_whole : (y : Float) (z : ℤ) → Whole y z → (t : Bool) × HasValue y t (nat_abs z) 1 × (signed t (nat_abs z) ≡ z)
of_whole nan z w = elim w [ ]
of_whole (inf b) z w = elim w [ ]
of_whole (fin t m e) z w = (t, (refl, mul-one (m * up e) ∙ w.0), w.1)

-- a float that holds the integer a, and a whole number: their sum is rounded once, from the exact one
pub add_int : (a : ℤ) (y : Float) (z : ℤ) → nat_abs a ≤ 2 ^ 53 → Whole y z → add binary64 (of_int binary64 a) y ≡ of_int binary64 (a +ℤ z)
add_int a y z h w =
    let k = of_whole y z w in
    let v : HasValue (of_int binary64 a) (below a) (nat_abs a) 1 = rw (of_int_is a) (round_whole binary64 (below a) (nat_abs a) h) in
    add_val (of_int binary64 a) y (below a) k.0 (nat_abs a) (nat_abs z) v k.1 ∙ sum_int a k.0 (nat_abs z) ∙ ap (λ (b : ℤ). of_int binary64 (a +ℤ b)) k.2

-- ---- a list

abs_sub : (b : Bool) (p q : ℕ) → (T b → p < q) → nat_abs (cond b (negsuc (q - suc p)) (pos (p - q))) ≤ p + q
abs_sub true p q f = let h = f tt in omega arith
abs_sub false p q f = omega arith

pub abs_add : (a b : ℤ) → nat_abs (a +ℤ b) ≤ nat_abs a + nat_abs b
abs_add (pos p) (pos q) = le_refl (p + q)
abs_add (pos p) (negsuc q) = abs_sub (ltb p (suc q)) p (suc q) (ltb→lt p (suc q))
abs_add (negsuc p) (pos q) = let h = abs_sub (ltb q (suc p)) q (suc p) (ltb→lt q (suc p)) in omega arith
abs_add (negsuc p) (negsuc q) = omega arith

-- the cells added in order to a sum so far
abbrev pub added : Float → List Float → Float
added x [] = x
added x (y ∷ ys) = added (add binary64 x y) ys

pub added_exact : (a : ℤ) (xs : List Float) (zs : List ℤ) → Wholes xs zs → nat_abs a + sizes_of zs ≤ 2 ^ 53 → added (of_int binary64 a) xs ≡ of_int binary64 (a +ℤ exact_sum zs)
added_exact a [] [] w h = ap (of_int binary64) (sym (+ℤ_idr a))
added_exact a [] (z ∷ zs) w h = elim w [ ]
added_exact a (x ∷ xs) [] w h = elim w [ ]
added_exact a (x ∷ xs) (z ∷ zs) w h =
    let k : nat_abs a ≤ 2 ^ 53 = omega arith in
    let t = abs_add a z in
    let r : nat_abs (a +ℤ z) + sizes_of zs ≤ 2 ^ 53 = omega arith in
    ap (λ (y : Float). added y xs) (add_int a x z k w.0) ∙ added_exact (a +ℤ z) xs zs w.1 r ∙ ap (of_int binary64) (+ℤ_assoc a z (exact_sum zs))

-- ---- the summary

cells-sum : (s : Summary) (xs : List Float) → (with_cells s xs).sum ≡ added s.sum xs
cells-sum s [] = refl
cells-sum s (x ∷ xs) = cells-sum (with_cell s x) xs ∙ ap (λ (y : Float). added y xs) (step_sum s x)

zero_int : plus_zero ≡ of_int binary64 (pos 0)
unfolding of_int
zero_int = refl

-- cells that are whole numbers whose sizes total at most 2 ^ 53: the sum is the exact one
pub sum_exact : (xs : List Float) (zs : List ℤ) → Wholes xs zs → sizes_of zs ≤ 2 ^ 53 → (summary_of xs).sum ≡ of_int binary64 (exact_sum zs)
unfolding summary_of
sum_exact xs zs w h =
    cells-sum nothing_met xs ∙ ap (λ (y : Float). added y xs) zero_int ∙ added_exact (pos 0) xs zs w (omega arith) ∙ ap (of_int binary64) (+ℤ_idl (exact_sum zs))

-- ---- the sum is the float of the exact sum

sign_back : (a : ℤ) → signed (below a) (nat_abs a) ≡ a
sign_back (pos n) = refl
sign_back (negsuc n) = refl

value-whole : (x : Float) (a : ℤ) → HasValue x (below a) (nat_abs a) 1 → Whole x a
value-whole nan a v = elim v [ ]
value-whole (inf b) a v = elim v [ ]
value-whole (fin s m e) a v = (sym (mul-one (m * up e)) ∙ v.1, rw v.0 (sign_back a))

pub of_int_whole : (a : ℤ) → nat_abs a ≤ 2 ^ 53 → Whole (of_int binary64 a) a
of_int_whole a h = value-whole (of_int binary64 a) a (rw (of_int_is a) (round_whole binary64 (below a) (nat_abs a) h))

abs_sum : (zs : List ℤ) → nat_abs (exact_sum zs) ≤ sizes_of zs
abs_sum [] = zero-le
abs_sum (z ∷ zs) = let h = abs_sum zs in let k = abs_add z (exact_sum zs) in omega arith

pub sum-whole : (xs : List Float) (zs : List ℤ) → Wholes xs zs → sizes_of zs ≤ 2 ^ 53 → Whole (summary_of xs).sum (exact_sum zs)
sum-whole xs zs w h = rw (sum_exact xs zs w h) (of_int_whole (exact_sum zs) (le_trans (abs_sum zs) h))

-- ---- a float is at most one integer

unsign : (s : Bool) (n : ℕ) → nat_abs (signed s n) ≡ n
unsign false n = refl
unsign true zero = refl
unsign true (suc n) = refl

pub whole-one : (x : Float) (a b : ℤ) → Whole x a → Whole x b → a ≡ b
whole-one nan a b v w = elim v [ ]
whole-one (inf s) a b v w = elim v [ ]
whole-one (fin s m e) a b v w =
    sym v.1 ∙ ap (signed s) (eq_of_mul-eq-mul_right (down e) (down_pos e) (nat_abs a) (nat_abs b) (sym v.0 ∙ w.0)) ∙ w.1
