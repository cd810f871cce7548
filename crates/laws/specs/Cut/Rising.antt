-- Declining looks at the axes behind the cut by rising byte stride, with a span that grows on the way. The same holds axis by axis in any
-- order: the span at an axis's turn is the width and what the axes before it add. Assumes nothing.
use Rattle.std.specs.Prelude.{◌≡◌, cond, ◌&&◌, ◌⊎◌, ltb, get_or}
use Rattle.std.proofs.Math.Path.{refl, ap}
use Rattle.std.proofs.Common.{sym, ap₂, ◌∙◌, eq-or-lt_of_le, arith}
use Rattle.std.proofs.Math.Bool.{Bool, true, false}
use mathlib.Core.List.{List, [], ◌∷◌}
use Rattle.std.proofs.Math.Logic.{⊎_elim, inl, inr}
use Prim.Native.Nat.{ℕ, zero, suc, ◌+◌, ◌-◌, ◌*◌, ◌%◌, ◌≤◌, ◌<◌}
use Rattle.std.proofs.Math.Dec.{leb, eqb}
use borrow.Author.Tests.{lt-ltb, le-ltb, leb-true, leb-false, eq-eqb, ne_eqb}
use Rattle.strided.specs.Base.{sum, every}
use Rattle.strided.specs.Decline.{insert_rising, rising, apart}
use Rattle.strided.specs.declared.Machine.{Machine}
use Rattle.laws.specs.Base.Lists.{All}
use Rattle.laws.specs.Cut.Ranges.{cond_true, cond_false, every_cong}

-- axis j comes before axis i: by rising f, the lower axis first where they are equal
abbrev pub before : (ℕ → ℕ) → ℕ → ℕ → Bool
before f i j = cond (eqb (f j) (f i)) (ltb j i) (ltb (f j) (f i))

-- (extent − 1) × stride, and what axis j adds to the span before axis i's turn
abbrev pub way_of : (ℕ → ℕ) → List ℕ → ℕ → ℕ
way_of f es j = (get_or es j 0 - 1) * f j

abbrev pub adds : (ℕ → ℕ) → List ℕ → ℕ → ℕ → ℕ
adds f es i j = cond (before f i j) (way_of f es j) 0

-- axis i, of the n from o on, keeps the slabs apart
unfoldable pub keeps_apart : Machine → (ℕ → ℕ) → List ℕ → ℕ → ℕ → ℕ → ℕ → Bool
keeps_apart mc f es o n w i = eqb (f i % mc.line) 0 && leb (w + sum (adds f es i) o n) (f i)

-- ---- tests and sums over a list

all_of : (ℕ → Bool) → List ℕ → Bool
all_of t [] = true
all_of t (x ∷ xs) = t x && all_of t xs

total : (ℕ → ℕ) → List ℕ → ℕ
total g [] = 0
total g (x ∷ xs) = g x + total g xs

and_swap : (a b c : Bool) → a && (b && c) ≡ b && (a && c)
and_swap true true c = refl
and_swap true false c = refl
and_swap false true c = refl
and_swap false false c = refl

and_assoc : (a b c : Bool) → a && (b && c) ≡ (a && b) && c
and_assoc true b c = refl
and_assoc false b c = refl

and-cond : (a b : Bool) → a && b ≡ cond a b false
and-cond true b = refl
and-cond false b = refl

all_cong : (t u : ℕ → Bool) (l : List ℕ) → All (λ i. t i ≡ u i) l → all_of t l ≡ all_of u l
unfolding all_of
all_cong t u [] h = refl
all_cong t u (x ∷ xs) h = ap₂ ◌&&◌ h.0 (all_cong t u xs h.1)

all_into : (P Q : ℕ → Type 0) → ((i : ℕ) → P i → Q i) → (l : List ℕ) → All P l → All Q l
all_into P Q f [] h = tt
all_into P Q f (x ∷ xs) h = (f x h.0, all_into P Q f xs h.1)

-- ---- an axis put in its place

module _ (f : ℕ → ℕ) where
  all_insert : (P : ℕ → Type 0) (x : ℕ) (l : List ℕ) → P x → All P l → All P (insert_rising f x l)
  unfolding insert_rising
  all_insert P x [] p h = (p, tt)
  all_insert P x (y ∷ ys) p h = go (leb (f y) (f x)) (all_insert P x ys p h.1)
    where
      go : (b : Bool) → All P (insert_rising f x ys) → All P (cond b (y ∷ insert_rising f x ys) (x ∷ y ∷ ys))
      go true r = (h.0, r)
      go false r = (p, h)

  test_insert : (t : ℕ → Bool) (x : ℕ) (l : List ℕ) → all_of t (insert_rising f x l) ≡ t x && all_of t l
  unfolding all_of insert_rising
  test_insert t x [] = refl
  test_insert t x (y ∷ ys) = go (leb (f y) (f x)) (test_insert t x ys)
    where
      go : (b : Bool) → all_of t (insert_rising f x ys) ≡ t x && all_of t ys
          → all_of t (cond b (y ∷ insert_rising f x ys) (x ∷ y ∷ ys)) ≡ t x && (t y && all_of t ys)
      go true r = ap (λ (z : Bool). t y && z) r ∙ and_swap (t y) (t x) (all_of t ys)
      go false r = refl

  total-insert : (g : ℕ → ℕ) (x : ℕ) (l : List ℕ) → total g (insert_rising f x l) ≡ g x + total g l
  unfolding total insert_rising
  total-insert g x [] = refl
  total-insert g x (y ∷ ys) = go (leb (f y) (f x)) (total-insert g x ys)
    where
      go : (b : Bool) → total g (insert_rising f x ys) ≡ g x + total g ys
          → total g (cond b (y ∷ insert_rising f x ys) (x ∷ y ∷ ys)) ≡ g x + (g y + total g ys)
      go true r = omega (arith, r)
      go false r = refl

  test_rising : (t : ℕ → Bool) (o n : ℕ) → all_of t (rising f o n) ≡ every t o n
  unfolding all_of rising every
  test_rising t o zero = refl
  test_rising t o (suc n) =
      test_insert t (o + n) (rising f o n) ∙ ap (λ (z : Bool). t (o + n) && z) (test_rising t o n) ∙ and-cond (t (o + n)) (every t o n)

  total-rising : (g : ℕ → ℕ) (o n : ℕ) → total g (rising f o n) ≡ sum g o n
  unfolding total rising sum
  total-rising g o zero = refl
  total-rising g o (suc n) = omega (arith, total-insert g (o + n) (rising f o n), total-rising g o n)

  below-rising : (o n : ℕ) → All (λ y. y < o + n) (rising f o n)
  unfolding rising
  below-rising o zero = tt
  below-rising o (suc n) =
      all_insert (λ y. y < o + suc n) (o + n) (rising f o n) (omega arith)
      (all_into (λ y. y < o + n) (λ y. y < o + suc n) (λ i h. omega arith) (rising f o n) (below-rising o n))

  -- ---- each axis of a rising list comes before those behind it

  After : ℕ → ℕ → Type 0
  After x y = (f x < f y) ⊎ ((f x ≡ f y) × (x < y))

  Sorted : List ℕ → Type 0
  Sorted [] = Unit {0}
  Sorted (x ∷ xs) = All (After x) xs × Sorted xs

  sorted_insert : (x : ℕ) (l : List ℕ) → All (λ y. y < x) l → Sorted l → Sorted (insert_rising f x l)
  unfolding Sorted insert_rising After
  sorted_insert x [] b s = (tt, tt)
  sorted_insert x (y ∷ ys) b s = go (leb (f y) (f x)) refl (sorted_insert x ys b.1 s.1)
    where
      le_after : f y ≤ f x → After y x
      le_after h = ⊎_elim (λ (e : f y ≡ f x). inr (e, b.0)) (λ (e : f y < f x). inl e) (eq-or-lt_of_le h)

      lt_after : f x < f y → (z : ℕ) → After y z → After x z
      lt_after h z a = ⊎_elim (λ (e : f y < f z). inl (omega arith)) (λ e. inl (omega (arith, e.0))) a

      go : (t : Bool) → leb (f y) (f x) ≡ t → Sorted (insert_rising f x ys) → Sorted (cond t (y ∷ insert_rising f x ys) (x ∷ y ∷ ys))
      go true e r = (all_insert (After y) x ys (le_after (leb-true (f y) (f x) e)) s.0, r)
      go false e r =
          let h : f x < f y = leb-false (f y) (f x) e in
          ((inl h, all_into (After y) (After x) (lt_after h) ys s.0), s)

  sorted_rising : (o n : ℕ) → Sorted (rising f o n)
  unfolding Sorted rising
  sorted_rising o zero = tt
  sorted_rising o (suc n) = sorted_insert (o + n) (rising f o n) (below-rising o n) (sorted_rising o n)

  before_self : (x : ℕ) → before f x x ≡ false
  before_self x = cond_true (eqb (f x) (f x)) (ltb x x) (ltb (f x) (f x)) (eq-eqb (f x) (f x) refl) ∙ le-ltb x x (omega arith)

  after-before : (x y : ℕ) → After x y → before f y x ≡ true
  unfolding After
  after-before x y a = ⊎_elim
      (λ (h : f x < f y). cond_false (eqb (f x) (f y)) (ltb x y) (ltb (f x) (f y)) (ne_eqb (f x) (f y) (λ e. absurd (omega arith))) ∙ lt-ltb (f x) (f y) h)
      (λ h. cond_true (eqb (f x) (f y)) (ltb x y) (ltb (f x) (f y)) (eq-eqb (f x) (f y) h.0) ∙ lt-ltb x y h.1)
      a

  after-not : (x y : ℕ) → After x y → before f x y ≡ false
  unfolding After
  after-not x y a = ⊎_elim
      (λ (h : f x < f y). cond_false (eqb (f y) (f x)) (ltb y x) (ltb (f y) (f x)) (ne_eqb (f y) (f x) (λ e. absurd (omega arith))) ∙ le-ltb (f y) (f x) (omega arith))
      (λ h. cond_true (eqb (f y) (f x)) (ltb y x) (ltb (f y) (f x)) (eq-eqb (f y) (f x) (sym h.0)) ∙ le-ltb y x (omega (arith, h.1)))
      a

  -- ---- the walk along a rising list, axis by axis

  module _ (mc : Machine) (es : List ℕ) where
    turn : List ℕ → ℕ → ℕ → Bool
    turn l w i = eqb (f i % mc.line) 0 && leb (w + total (adds f es i) l) (f i)

    adds_none : (x : ℕ) (l : List ℕ) → All (After x) l → total (adds f es x) l ≡ 0
    unfolding total
    adds_none x [] h = refl
    adds_none x (y ∷ ys) h =
        omega (arith, cond_false (before f x y) (way_of f es y) 0 (after-not x y h.0), adds_none x ys h.1)

    apart_sorted : (w : ℕ) (l : List ℕ) → Sorted l → apart mc f es w l ≡ all_of (turn l w) l
    unfolding apart all_of Sorted turn total
    apart_sorted w [] s = refl
    apart_sorted w (x ∷ xs) s =
        let a : Bool = eqb (f x % mc.line) 0 in
        let d : ℕ = way_of f es x in
        let here : w ≡ w + (adds f es x x + total (adds f es x) xs) =
        omega (arith, cond_false (before f x x) d 0 (before_self x), adds_none x xs s.0) in
        ap (λ (z : Bool). a && (leb w (f x) && z))
        (apart_sorted (w + d) xs s.1
        ∙ all_cong (turn xs (w + d)) (turn (x ∷ xs) w) xs
        (all_into (After x) (λ i. turn xs (w + d) i ≡ turn (x ∷ xs) w i) (λ i h.
        let e : w + d + total (adds f es i) xs ≡ w + (adds f es i x + total (adds f es i) xs) =
        omega (arith, cond_true (before f i x) d 0 (after-before x i h)) in
        ap (λ (z : ℕ). eqb (f i % mc.line) 0 && leb z (f i)) e) xs s.0))
        ∙ and_assoc a (leb w (f x)) (all_of (turn (x ∷ xs) w) xs)
        ∙ ap (λ (z : ℕ). (a && leb z (f x)) && all_of (turn (x ∷ xs) w) xs) here

    pub apart_each : (o n w : ℕ) → apart mc f es w (rising f o n) ≡ every (keeps_apart mc f es o n w) o n
    unfolding turn keeps_apart
    apart_each o n w =
        let l : List ℕ = rising f o n in
        apart_sorted w l (sorted_rising o n)
        ∙ test_rising (turn l w) o n
        ∙ every_cong (turn l w) (keeps_apart mc f es o n w) o n
        (λ i p q. ap (λ (z : ℕ). eqb (f i % mc.line) 0 && leb (w + z) (f i)) (total-rising (adds f es i) o n))
