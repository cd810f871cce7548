-- Laws of a total as 64 bits hold it. Assumes nothing.
use mathlib.Core.Path.{◌≡◌, refl, sym, ◌∙◌, ap}
use mathlib.Core.Bool.{Bool, true, false}
use mathlib.Core.List.{List, [], ◌∷◌}
use Prim.Native.Nat.{ℕ, zero, suc, ◌+◌, ◌*◌, ◌-◌, ◌^◌, ◌≤◌, ◌<◌}
use native.Mathlib.Nat.{mul-le-mul_left, mul_assoc, mul-zero, mul-one}
use native.Mathlib.Numerals.{add-one}
use native.Mathlib.Omega.{arith}
use lib.Dec.{ltb, leb, eqb}
use lib.ListN.{length, get_or, take, drop, length-drop}
use lib.Seq.{take_all}
use borrow.Author.Tests.{lt-ltb, le-ltb, le-leb, lt-leb, ltb-true, ltb-false, eq-eqb, ne_eqb, eqb-true, eqb-false}
use Rattle.std.specs.Prelude.{Option, Some, None, SomeIff, is_some, not}
use Rattle.strided.specs.Layout.{total, has_zero, max_u}
use Rattle.laws.specs.Refusals.Zeros.{zero-total, no_zero_of, total_some}
use Rattle.layout.specs.Held.{held, times_of}

pub held_fits : (n : ℕ) → n < 2 ^ 64 → held n ≡ Some n
unfolding held
held_fits n h = rw (lt-ltb n (2 ^ 64) h)

pub held-over : (n : ℕ) → 2 ^ 64 ≤ n → held n ≡ None
unfolding held
held-over n h = rw (le-ltb n (2 ^ 64) h)

held-zero : (x e : ℕ) → e ≡ 0 → held (x * e) ≡ Some 0
held-zero x e h = ap held (ap (λ (k : ℕ). x * k) h ∙ mul-zero x) ∙ held_fits 0 (omega arith)

-- ---- one factor

pub times_none : (t : Option ℕ) (e : ℕ) → e ≡ 0 → Some 0 ≡ times_of t e
unfolding times_of
times_none (Some x) e h = sym (held-zero x e h)
times_none None e h = sym (rw (eq-eqb e 0 h))

pub times_over : (e : ℕ) → (e ≡ 0 → ⊥) → None ≡ times_of None e
unfolding times_of
times_over e h = sym (rw (ne_eqb e 0 h))

-- ---- the loop

-- a product as it is held, times one more
times_held : (x e : ℕ) → times_of (held x) e ≡ held (x * e)
unfolding times_of
times_held x e = go (ltb x (2 ^ 64)) refl
  where
    past : 2 ^ 64 ≤ x → (e ≡ 0 → ⊥) → 2 ^ 64 ≤ x * e
    past h nz =
        let p : 1 ≤ e = omega arith in
        let a : x * 1 ≤ x * e = mul-le-mul_left x p in omega (arith, mul-one x)

    zero_or_lem : 2 ^ 64 ≤ x → (b : Bool) → eqb e 0 ≡ b → times_of None e ≡ held (x * e)
    zero_or_lem h true q = rw q (sym (held-zero x e (eqb-true e 0 q)))
    zero_or_lem h false q = rw q (sym (held-over (x * e) (past h (eqb-false e 0 q))))

    go : (b : Bool) → ltb x (2 ^ 64) ≡ b → times_of (held x) e ≡ held (x * e)
    go true q = rw (held_fits x (ltb-true x (2 ^ 64) q))
    go false q = rw (held-over x (ltb-false x (2 ^ 64) q)) (zero_or_lem (ltb-false x (2 ^ 64) q) (eqb e 0) refl)

total-take : (es : List ℕ) (i : ℕ) → i < length es → total (take (suc i) es) ≡ total (take i es) * get_or es i 0
total-take [] i h = absurd (bad h)
  where
    bad : i < 0 → ⊥
    bad h = omega arith
total-take (e ∷ es) zero h = omega arith
total-take (e ∷ es) (suc i) h = rw (total-take es i (omega arith)) (omega arith)

-- with one more extent
pub total-next : (es : List ℕ) (i : ℕ) → i < length es → total (take (i + 1) es) ≡ total (take i es) * get_or es i 0
total-next es i h = ap (λ (n : ℕ). total (take n es)) (add-one i) ∙ total-take es i h

pub total_none : (es : List ℕ) → Some 1 ≡ held (total (take 0 es))
total_none es = sym (held_fits 1 (omega arith))

pub total_turn : (es : List ℕ) (i : ℕ) (t r : Option ℕ) → i < length es → t ≡ held (total (take i es)) → r ≡ times_of t (get_or es i 0) → r ≡ held (total (take (i + 1) es))
total_turn es i t r h p q =
    q ∙ ap (λ (x : Option ℕ). times_of x (get_or es i 0)) p ∙ times_held (total (take i es)) (get_or es i 0)
    ∙ ap held (sym (ap (λ (n : ℕ). total (take n es)) (add-one i) ∙ total-take es i h))

-- ---- once the product is above a limit

total_split : (es : List ℕ) (n : ℕ) → total es ≡ total (take n es) * total (drop n es)
total_split [] zero = refl
total_split [] (suc n) = refl
total_split (e ∷ es) zero = omega arith
total_split (e ∷ es) (suc n) = rw (total_split es n) (sym (mul_assoc e (total (take n es)) (total (drop n es))))

-- a 0 behind it brings it back, and nothing else does
pub total_past : (es : List ℕ) (n limit : ℕ) → limit < total (take n es) → has_zero (take (length es - n) (drop n es)) ≡ leb (total es) limit
total_past es n limit h = ap has_zero (take_all (length es - n) (drop n es) (omega (arith, length-drop n es))) ∙ go (has_zero (drop n es)) refl
  where
    go : (b : Bool) → has_zero (drop n es) ≡ b → b ≡ leb (total es) limit
    go true q =
        let z : total es ≡ 0 = total_split es n ∙ rw (zero-total (drop n es) q) (mul-zero (total (take n es))) in
        sym (le-leb (total es) limit (omega (arith, z)))
    go false q =
        let g : total (take n es) * 1 ≤ total (take n es) * total (drop n es) = mul-le-mul_left (total (take n es)) (total_some (drop n es) (no_zero_of (drop n es) q)) in
        sym (lt-leb (total es) limit (omega (arith, g, total_split es n, h)))

-- ---- which of the two it is

-- a checked product, as it is held
pub held_checked : (r : Option ℕ) (n : ℕ) → SomeIff r (n < 2 ^ 64) n → r ≡ held n
held_checked None n h = sym (held-over n (omega (arith, h)))
held_checked (Some x) n h = ap (λ (m : ℕ). Some m) h.1 ∙ sym (held_fits n h.0)

not_not : (b : Bool) {t : Bool} → t ≡ not b → b ≡ not t
not_not true e = ap not (sym e)
not_not false e = ap not (sym e)

-- whether none is held: b is its negation's
pub none_held : (n : ℕ) (o : Option ℕ) (b : Bool) → o ≡ held n → is_some o ≡ not b → b ≡ ltb max_u n
none_held n o b is s = not_not b s ∙ ap (λ (p : Option ℕ). not (is_some p)) is ∙ go (ltb n (2 ^ 64)) refl
  where
    go : (c : Bool) → ltb n (2 ^ 64) ≡ c → not (is_some (held n)) ≡ ltb max_u n
    go true q = rw (held_fits n (ltb-true n (2 ^ 64) q)) (sym (le-ltb max_u n (omega (arith, ltb-true n (2 ^ 64) q))))
    go false q = rw (held-over n (ltb-false n (2 ^ 64) q)) (sym (lt-ltb max_u n (omega (arith, ltb-false n (2 ^ 64) q))))
