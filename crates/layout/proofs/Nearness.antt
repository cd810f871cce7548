-- What is gathered of numbers above a bound; and no reach of a small layout is above 2^63 - 1. Assumes nothing.
use mathlib.Core.Path.{◌≡◌, refl, sym, ap, ap₂, ◌∙◌}
use mathlib.Core.Bool.{Bool, true, false, not, ◌&&◌, and_assoc, and-true, and-false}
use mathlib.Core.List.{List, [], ◌∷◌}
use Prim.Native.Nat.{ℕ, zero, suc, ◌+◌, ◌-◌, ◌*◌, ◌/◌, ◌^◌, ◌≤◌, ◌<◌}
use native.Mathlib.Nat.{mul-le-mul_right, div-lt_iff_lt-mul}
use native.Mathlib.Numerals.{add-one}
use native.Mathlib.Omega.{arith}
use lib.Bits.{bit_or, or_add_and, and_le_l, and_le_r}
use lib.Dec.{ltb, eqb}
use lib.IntN.{ℤ, nat_abs}
use lib.ListN.{length, get_or, take, drop, drop_of_length-le}
use lib.Seq.{drop-cons, take-add}
use borrow.Author.Tests.{ltb-true, ltb-false, le-ltb, eqb-true, eqb-false, eq-eqb, ne_eqb}
use Rattle.std.specs.List.{list_all}
use Rattle.strided.specs.Layout.{has_zero, reach, max_i}
use Rattle.strided.specs.Refusals.{some_operand}
use Rattle.std.proofs.lemmas.List.{take-append-drop}
use Rattle.std.proofs.lemmas.List.Folds.{list_all-append}
use Rattle.std.proofs.lemmas.Nat.{pow_pos}
use Rattle.laws.specs.Base.Tests.{and_both}
use Rattle.laws.specs.Refusals.Operands.{some_of_none}
use Rattle.layout.specs.Rows.{row_at, far_at}
use Rattle.layout.specs.Near.{all_below}

-- ---- what lies above a bound

-- two numbers gathered have no bit exactly if neither has one
or_none : (a b : ℕ) → eqb (bit_or a b) 0 ≡ (eqb a 0 && eqb b 0)
or_none a b = go (eqb a 0) (eqb b 0) refl refl
  where
    go : (x y : Bool) → eqb a 0 ≡ x → eqb b 0 ≡ y → eqb (bit_or a b) 0 ≡ (x && y)
    go true true p q = eq-eqb (bit_or a b) 0 (omega (arith, or_add_and a b, eqb-true a 0 p, eqb-true b 0 q))
    go true false p q = ne_eqb (bit_or a b) 0 (λ e. eqb-false b 0 q (omega (arith, or_add_and a b, and_le_l a b, e)))
    go false y p q = ne_eqb (bit_or a b) 0 (λ e. eqb-false a 0 p (omega (arith, or_add_and a b, and_le_r a b, e)))

-- nothing is left of x exactly if it is below the bound
above_none : (x m : ℕ) → 0 < m → eqb (x / m) 0 ≡ ltb x m
above_none x m p = go (ltb x m) refl
  where
    go : (b : Bool) → ltb x m ≡ b → eqb (x / m) 0 ≡ b
    go true q = eq-eqb (x / m) 0 (let h : x / m < 1 = (div-lt_iff_lt-mul p).1 (omega (arith, ltb-true x m q)) in omega arith)
    go false q = ne_eqb (x / m) 0 (λ e. let h : x < 1 * m = (div-lt_iff_lt-mul p).0 (omega (arith, e)) in omega (arith, ltb-false x m q))

-- the bits of a place are gathered, which are none exactly if its test holds: what is gathered of the places so far is none exactly if their
-- tests hold, and the rest is still to test
module _ {A : Type 0} (test : A → Bool) (xs : List A) (i seen : ℕ) where
  pub gathered_next : (z : A) (n : ℕ) → i < length xs → eqb n 0 ≡ test (get_or xs i z) → (eqb seen 0 && list_all test (drop i xs)) ≡ list_all test xs
      → (eqb (bit_or seen n) 0 && list_all test (drop (i + 1) xs)) ≡ list_all test xs
  gathered_next z n h q e =
      let rest : Bool = list_all test (drop (i + 1) xs) in
      let x : A = get_or xs i z in
      let step : list_all test (drop i xs) ≡ (test x && rest) =
      ap (list_all test) (drop-cons xs i z h) ∙ ap (λ (j : ℕ). test x && list_all test (drop j xs)) (sym (add-one i)) in
      ap (λ (y : Bool). y && rest) (or_none seen n ∙ ap (λ (y : Bool). eqb seen 0 && y) q)
      ∙ and_assoc (eqb seen 0) (test x) rest ∙ ap (λ (y : Bool). eqb seen 0 && y) (sym step) ∙ e

  pub gathered_end : length xs ≤ i → (eqb seen 0 && list_all test (drop i xs)) ≡ list_all test xs → eqb seen 0 ≡ list_all test xs
  gathered_end h e = sym (and-true (eqb seen 0)) ∙ ap (λ (l : List A). eqb seen 0 && list_all test l) (sym (drop_of_length-le xs h)) ∙ e

-- numbers gathered row by row: the last row, which ends with the list, and those from its head on
module _ {A : Type 0} (test : A → Bool) where
  pub row_next : (last : Bool) (xs : List A) (from width seen n : ℕ) → eqb seen 0 ≡ (last && list_all test (take from xs))
      → eqb n 0 ≡ list_all test (take width (drop from xs)) → eqb (bit_or seen n) 0 ≡ (last && list_all test (take (from + width) xs))
  row_next last xs from width seen n h q =
      or_none seen n
      ∙ ap₂ (λ (x y : Bool). x && y) h q
      ∙ and_assoc last (list_all test (take from xs)) (list_all test (take width (drop from xs)))
      ∙ ap (λ (y : Bool). last && y) (sym (ap (list_all test) (take-add from width xs) ∙ list_all-append test (take from xs) (take width (drop from xs))))

  -- where they meet no number is left out
  pub rows_cover : (xs : List A) (from to : ℕ) → from ≤ to → (list_all test (drop from xs) && list_all test (take to xs)) ≡ list_all test xs
  rows_cover xs zero to h =
      let parts : list_all test xs ≡ (list_all test (take to xs) && list_all test (drop to xs)) =
      ap (list_all test) (sym (take-append-drop to xs)) ∙ list_all-append test (take to xs) (drop to xs) in
      ap (λ (y : Bool). y && list_all test (take to xs)) parts ∙ absorb (list_all test (take to xs)) (list_all test (drop to xs)) ∙ sym parts
    where
      absorb : (a b : Bool) → ((a && b) && a) ≡ (a && b)
      absorb true b = and-true b
      absorb false b = refl
  rows_cover xs (suc from) zero h = absurd (omega arith)
  rows_cover [] (suc from) (suc to) h = refl
  rows_cover (x ∷ xs) (suc from) (suc to) h =
      turned (list_all test (drop from xs)) (test x) (list_all test (take to xs)) ∙ ap (λ (y : Bool). test x && y) (rows_cover xs from to (omega arith))
    where
      turned : (a b c : Bool) → (a && (b && c)) ≡ (b && (a && c))
      turned a true c = refl
      turned a false c = and-false a

-- the bits from a bound on are none exactly if the size is below it
pub below_bits : (bits n size : ℕ) → n ≡ size → eqb (n / 2 ^ bits) 0 ≡ ltb size (2 ^ bits)
below_bits bits n size q = above_none n (2 ^ bits) (pow_pos bits) ∙ ap (λ (k : ℕ). ltb k (2 ^ bits)) q

-- ---- the reach

abbrev low : List ℕ → Bool
low es = all_below (λ n. n) (2 ^ 16) es

abbrev near : List ℤ → Bool
near ss = all_below nat_abs (2 ^ 41) ss

product : (e m : ℕ) → e < 2 ^ 16 → m < 2 ^ 41 → (e - 1) * m < 2 ^ 57
product e m h l =
    let a : e - 1 ≤ 65535 = omega arith in
    let p : (e - 1) * m ≤ 65535 * m = mul-le-mul_right m a in
    omega arith

small : (es : List ℕ) (ts : List ℤ) → low es ≡ true → near ts ≡ true → reach es ts ≤ length es * 144115188075855871
small [] ts h l = omega arith
small (e ∷ es) [] h l = omega arith
small (e ∷ es) (t ∷ ts) h l =
    let p = and_both (ltb e (2 ^ 16)) (low es) h in
    let q = and_both (ltb (nat_abs t) (2 ^ 41)) (near ts) l in
    omega (arith, product e (nat_abs t) (ltb-true e (2 ^ 16) p.0) (ltb-true (nat_abs t) (2 ^ 41) q.0), small es ts p.1 q.1)

near-drop : (n : ℕ) (ss : List ℤ) → near ss ≡ true → near (drop n ss) ≡ true
near-drop zero ss h = h
near-drop (suc n) [] h = refl
near-drop (suc n) (s ∷ ss) h = near-drop n ss (and_both (ltb (nat_abs s) (2 ^ 41)) (near ss) h).1

near-take : (n : ℕ) (ss : List ℤ) → near ss ≡ true → near (take n ss) ≡ true
near-take zero ss h = refl
near-take (suc n) [] h = refl
near-take (suc n) (s ∷ ss) h =
    let p = and_both (ltb (nat_abs s) (2 ^ 41)) (near ss) h in
    rw (p.0, near-take n ss p.1)

-- row 6 does not apply
module _ (es : List ℕ) (ss : List ℤ) (operands pitch : ℕ) (few : length es ≤ 64) {b : Bool} (is : b ≡ (all_below (λ n. n) (2 ^ 16) es && all_below nat_abs (2 ^ 41) ss)) (t : b ≡ true) where
  none_far : (k : ℕ) → far_at es (row_at es ss pitch) k ≡ false
  none_far k =
      let h = and_both (low es) (near ss) (sym is ∙ t) in
      let r = small es (row_at es ss pitch k) h.0 (near-take (length es) (drop (k * pitch) ss) (near-drop (k * pitch) ss h.1)) in
      le-ltb max_i (reach es (row_at es ss pitch k)) (omega (arith, r))

  pub small_passes : some_operand es (far_at es (row_at es ss pitch)) operands ≡ false
  small_passes = rw (some_of_none (far_at es (row_at es ss pitch)) operands (λ k l. none_far k)) (and-false (not (has_zero es)))
