-- The range words of strided's Base (sum, product, least, every, seek, greatest), one axis more at a time as a loop takes them; and choices
-- whose test is known. The range from o on is written i - o, since a loop holds i. Assumes nothing.
use Rattle.std.specs.Prelude.{◌≡◌, refl, ◌⊎◌, Bool, true, false, cond, ℕ, zero, suc, ◌+◌, ◌-◌, ◌*◌, ◌<◌, ◌≤◌, min, ltb}
use Rattle.std.proofs.Common.{sym, ap, ap₂, ◌∙◌, ⊎_elim, inl, inr, eq-or-lt_of_le, le_of_eq, le_refl, add-le-add, mul-le-mul, zero-add, zero-mul, add-mul, add-one, arith, lt-ltb, le-ltb}
use Rattle.std.proofs.lemmas.Bool.{false≢true, cases_lt, cases_Bool}
use Rattle.std.proofs.Math.Nat.{sub-zero}
use Rattle.strided.specs.Base.{sum, product, least, every, seek, greatest}
use Rattle.laws.specs.Base.Ranges.{sum_mono, every_fails}

pub le_or_lt : (a b : ℕ) → (a ≤ b) ⊎ (b < a)
le_or_lt a b = ⊎_elim inr inl (cases_lt b a)

-- ---- choices

pub true_or_false : (t : Bool) → (t ≡ true) ⊎ (t ≡ false)
true_or_false t = cases_Bool t

module _ {A : Type 0} where
  pub cond_true : (t : Bool) (x y : A) → t ≡ true → cond t x y ≡ x
  cond_true t x y e = ap (λ (s : Bool). cond s x y) e

  pub cond_false : (t : Bool) (x y : A) → t ≡ false → cond t x y ≡ y
  cond_false t x y e = ap (λ (s : Bool). cond s x y) e

  pub cond_lt : (a b : ℕ) (x y : A) → a < b → cond (ltb a b) x y ≡ x
  cond_lt a b x y h = cond_true (ltb a b) x y (lt-ltb a b h)

  pub cond_le : (a b : ℕ) (x y : A) → b ≤ a → cond (ltb a b) x y ≡ y
  cond_le a b x y h = cond_false (ltb a b) x y (le-ltb a b h)

  pub cond_same : (t : Bool) (x : A) → cond t x x ≡ x
  cond_same true x = refl
  cond_same false x = refl

pub cond_mono : (t : Bool) {a a' b b' : ℕ} → a ≤ a' → b ≤ b' → cond t a b ≤ cond t a' b'
cond_mono true p q = p
cond_mono false p q = q

-- ---- a range of no axis, and one axis more

module _ {A : Type 0} (f : ℕ → A) (o : ℕ) where
  pub none_yet : f (o - o) ≡ f 0
  none_yet = let e : o - o ≡ 0 = omega arith in ap f e

  pub one_more_lem : (i : ℕ) → o ≤ i → f (i + 1 - o) ≡ f (suc (i - o))
  one_more_lem i h = let e : i + 1 - o ≡ suc (i - o) = omega arith in ap f e

pub at_end : (o i : ℕ) → o ≤ i → o + (i - o) ≡ i
at_end o i h = omega arith

pub sum_none : (f : ℕ → ℕ) (o : ℕ) → sum f o 0 ≡ 0
unfolding sum
sum_none f o = refl

pub sum_start : (f : ℕ → ℕ) (o : ℕ) → sum f o (o - o) ≡ 0
sum_start f o = none_yet (sum f o) o ∙ sum_none f o

pub sum_step : (f : ℕ → ℕ) (o i : ℕ) → o ≤ i → sum f o (i + 1 - o) ≡ sum f o (i - o) + f i
unfolding sum
sum_step f o i h = one_more_lem (sum f o) o i h ∙ ap (λ (x : ℕ). sum f o (i - o) + f x) (at_end o i h)

pub product_start : (f : ℕ → ℕ) (o : ℕ) → product f o (o - o) ≡ 1
unfolding product
product_start f o = none_yet (product f o) o

pub product-step : (f : ℕ → ℕ) (o i : ℕ) → o ≤ i → product f o (i + 1 - o) ≡ product f o (i - o) * f i
unfolding product
product-step f o i h = one_more_lem (product f o) o i h ∙ ap (λ (x : ℕ). product f o (i - o) * f x) (at_end o i h)

pub product_none : (f : ℕ → ℕ) → product f 0 0 ≡ 1
unfolding product
product_none f = refl

pub product_more : (f : ℕ → ℕ) (k : ℕ) → product f 0 (k + 1) ≡ product f 0 k * f k
unfolding product
product_more f k = ap (product f 0) (add-one k) ∙ ap (λ (x : ℕ). product f 0 k * f x) (zero-add k)

pub least-one : (f : ℕ → ℕ) (o : ℕ) → least f o (o + 1 - o) ≡ f o
unfolding least
least-one f o = let e : o + 1 - o ≡ 1 = omega arith in ap (least f o) e

pub least_step : (f : ℕ → ℕ) (o i : ℕ) → o < i → least f o (i + 1 - o) ≡ min (least f o (i - o)) (f i)
unfolding least
least_step f o i h =
    let e : i + 1 - o ≡ suc (suc (i - o - 1)) = omega arith in
    let e1 : suc (i - o - 1) ≡ i - o = omega arith in
    let e2 : o + suc (i - o - 1) ≡ i = omega arith in
    ap (least f o) e ∙ ap₂ (λ (x y : ℕ). min (least f o x) (f y)) e1 e2

pub least_first : (f : ℕ → ℕ) → least f 0 1 ≡ f 0
unfolding least
least_first f = refl

pub least_more : (f : ℕ → ℕ) (k : ℕ) → 0 < k → least f 0 (k + 1) ≡ min (least f 0 k) (f k)
least_more f k h = ap (least f 0) (sym (sub-zero (k + 1))) ∙ least_step f 0 k h ∙ ap (λ (x : ℕ). min (least f 0 x) (f k)) (sub-zero k)

-- none of them is below the least
pub least_in : (f : ℕ → ℕ) (o n i : ℕ) → o ≤ i → i < o + n → least f o n ≤ f i
unfolding least
least_in f o zero i h l = absurd (omega arith)
least_in f o (suc zero) i h l = let e : o ≡ i = omega arith in le_of_eq (ap f e)
least_in f o (suc (suc n)) i h l = ⊎_elim
    (λ (e : i ≡ o + suc n). omega (arith, ap f e))
    (λ (e : i < o + suc n). omega (arith, least_in f o (suc n) i h e))
    (eq-or-lt_of_le {n = i} {m = o + suc n} (omega arith))

pub every_none : (t : ℕ → Bool) → every t 0 0 ≡ true
unfolding every
every_none t = refl

-- one test that fails is enough
pub every_fails_at : (t : ℕ → Bool) (o i n : ℕ) → o ≤ i → i < o + n → t i ≡ false → every t o n ≡ false
every_fails_at t o i n h l e = every_fails t o n (i - o) (omega arith) (ap t (at_end o i h) ∙ e)

-- ---- seeking an axis

pub seek_none : (t : ℕ → Bool) (i r : ℕ) → r ≤ i → seek t i (r - i) ≡ i
unfolding seek
seek_none t i r h = let e : r - i ≡ 0 = omega arith in ap (seek t i) e

pub seek_hit : (t : ℕ → Bool) (i r : ℕ) → i < r → t i ≡ true → seek t i (r - i) ≡ i
unfolding seek
seek_hit t i r h e =
    let q : r - i ≡ suc (r - (i + 1)) = omega arith in
    ap (seek t i) q ∙ cond_true (t i) i (seek t (suc i) (r - (i + 1))) e

pub seek_miss : (t : ℕ → Bool) (i r : ℕ) → i < r → t i ≡ false → seek t i (r - i) ≡ seek t (i + 1) (r - (i + 1))
unfolding seek
seek_miss t i r h e =
    let q : r - i ≡ suc (r - (i + 1)) = omega arith in
    ap (seek t i) q ∙ cond_false (t i) i (seek t (suc i) (r - (i + 1))) e ∙ ap (λ (x : ℕ). seek t x (r - (i + 1))) (sym (add-one i))

-- what is sought among n axes is at most at their end
pub seek_le : (t : ℕ → Bool) (i n : ℕ) → seek t i n ≤ i + n
unfolding seek
seek_le t i zero = omega arith
seek_le t i (suc n) = go (t i) (seek_le t (suc i) n)
  where
    go : (x : Bool) → seek t (suc i) n ≤ suc i + n → cond x i (seek t (suc i) n) ≤ i + suc n
    go true h = omega arith
    go false h = omega arith

-- ---- the greatest number at which a test holds, found

pub greatest_is : (t : ℕ → Bool) (n v : ℕ) → v ≤ n → 0 < v → t v ≡ true → ((x : ℕ) → v < x → x ≤ n → t x ≡ false) → greatest t n ≡ v
unfolding greatest
greatest_is t zero v h p e f = absurd (omega arith)
greatest_is t (suc n) v h p e f = ⊎_elim
    (λ (q : v ≡ suc n). cond_true (t (suc n)) (suc n) (greatest t n) (ap t (sym q) ∙ e) ∙ sym q)
    (λ (q : v < suc n).
    cond_false (t (suc n)) (suc n) (greatest t n) (f (suc n) q (le_refl (suc n)))
    ∙ greatest_is t n v (omega arith) p e (λ x a b. f x a (omega arith)))
    (eq-or-lt_of_le h)

-- it is at most n, the test fails behind it, and holds at it where it holds anywhere from 1 on
pub greatest_le : (t : ℕ → Bool) (n : ℕ) → greatest t n ≤ n
unfolding greatest
greatest_le t zero = le_refl 0
greatest_le t (suc n) = go (t (suc n)) (greatest_le t n)
  where
    go : (b : Bool) → greatest t n ≤ n → cond b (suc n) (greatest t n) ≤ suc n
    go true h = le_refl (suc n)
    go false h = omega arith

pub greatest_behind : (t : ℕ → Bool) (n x : ℕ) → greatest t n < x → x ≤ n → t x ≡ false
unfolding greatest
greatest_behind t zero x g h = absurd (omega arith)
greatest_behind t (suc n) x g h = go (t (suc n)) refl g (λ (l : greatest t n < x) (k : x ≤ n). greatest_behind t n x l k)
  where
    go : (b : Bool) → t (suc n) ≡ b → cond b (suc n) (greatest t n) < x → (greatest t n < x → x ≤ n → t x ≡ false) → t x ≡ false
    go true e l f = absurd (omega arith)
    go false e l f = ⊎_elim
        (λ (q : x ≡ suc n). ap t q ∙ e)
        (λ (q : x < suc n). f l (omega arith))
        (eq-or-lt_of_le h)

pub greatest-holds : (t : ℕ → Bool) (n x : ℕ) → 1 ≤ x → x ≤ n → t x ≡ true → (t (greatest t n) ≡ true) × (x ≤ greatest t n)
unfolding greatest
greatest-holds t zero x p h q = absurd (omega arith)
greatest-holds t (suc n) x p h q = go (t (suc n)) refl (λ (k : x ≤ n). greatest-holds t n x p k q)
  where
    go : (b : Bool) → t (suc n) ≡ b → (x ≤ n → (t (greatest t n) ≡ true) × (x ≤ greatest t n))
        → (t (cond b (suc n) (greatest t n)) ≡ true) × (x ≤ cond b (suc n) (greatest t n))
    go true e f = (e, h)
    go false e f = ⊎_elim
        (λ (r : x ≡ suc n). absurd (false≢true (sym e ∙ ap t (sym r) ∙ q)))
        (λ (r : x < suc n). f (omega arith))
        (eq-or-lt_of_le h)

-- ---- two ranges

-- term by term
pub sum_termwise : (f g : ℕ → ℕ) → ((i : ℕ) → f i ≤ g i) → (o n : ℕ) → sum f o n ≤ sum g o n
unfolding sum
sum_termwise f g h o zero = le_refl 0
sum_termwise f g h o (suc n) = add-le-add (sum_termwise f g h o n) (h (o + n))

pub product_termwise : (f g : ℕ → ℕ) → ((i : ℕ) → f i ≤ g i) → (o n : ℕ) → product f o n ≤ product g o n
unfolding product
product_termwise f g h o zero = le_refl 1
product_termwise f g h o (suc n) = mul-le-mul (product_termwise f g h o n) (h (o + n))

-- in two parts
pub sum-add : (f : ℕ → ℕ) (o c d : ℕ) → sum f o c + sum f (o + c) d ≡ sum f o (c + d)
unfolding sum
sum-add f o c zero = let e : c ≡ c + 0 = omega arith in omega (arith, ap (sum f o) e)
sum-add f o c (suc d) =
    let e : c + suc d ≡ suc (c + d) = omega arith in
    let e' : o + (c + d) ≡ o + c + d = omega arith in
    omega (arith, ap (sum f o) e, ap f e', sum-add f o c d)

-- one term is at most the sum
pub term_in : (f : ℕ → ℕ) (o n i : ℕ) → o ≤ i → i < o + n → f i ≤ sum f o n
term_in f o n i h l = omega (arith, sum_step f o i h, sum_mono f o (i + 1 - o) n (omega arith))

-- a common factor
pub sum_scale : (f g : ℕ → ℕ) (c : ℕ) → ((i : ℕ) → g i ≡ f i * c) → (o n : ℕ) → sum g o n ≡ sum f o n * c
unfolding sum
sum_scale f g c h o zero = sym (zero-mul c)
sum_scale f g c h o (suc n) = ap₂ (λ (x y : ℕ). x + y) (sum_scale f g c h o n) (h (o + n)) ∙ sym (add-mul (sum f o n) (f (o + n)) c)

-- ---- the same terms, the same range

module _ (o n : ℕ) where
  -- two functions that agree on the range
  abbrev pub Agree : {A : Type 0} → (ℕ → A) → (ℕ → A) → Type 0
  Agree f g = (i : ℕ) → o ≤ i → i < o + n → f i ≡ g i

shorter : {A : Type 0} (o n : ℕ) (f g : ℕ → A) → Agree o (suc n) f g → Agree o n f g
shorter o n f g h i p q = h i p (omega arith)

last : {A : Type 0} (o n : ℕ) (f g : ℕ → A) → Agree o (suc n) f g → f (o + n) ≡ g (o + n)
last o n f g h = h (o + n) (omega arith) (omega arith)

pub sum_cong : (f g : ℕ → ℕ) (o n : ℕ) → Agree o n f g → sum f o n ≡ sum g o n
unfolding sum
sum_cong f g o zero h = refl
sum_cong f g o (suc n) h = ap₂ ◌+◌ (sum_cong f g o n (shorter o n f g h)) (last o n f g h)

pub product_cong : (f g : ℕ → ℕ) (o n : ℕ) → Agree o n f g → product f o n ≡ product g o n
unfolding product
product_cong f g o zero h = refl
product_cong f g o (suc n) h = ap₂ ◌*◌ (product_cong f g o n (shorter o n f g h)) (last o n f g h)

pub least_cong : (f g : ℕ → ℕ) (o n : ℕ) → Agree o n f g → least f o n ≡ least g o n
unfolding least
least_cong f g o zero h = refl
least_cong f g o (suc zero) h = h o (omega arith) (omega arith)
least_cong f g o (suc (suc n)) h = ap₂ min (least_cong f g o (suc n) (shorter o (suc n) f g h)) (last o (suc n) f g h)

-- a least number is above a bound exactly if each is
above_least : (c a b : ℕ) → ltb c (min a b) ≡ cond (ltb c a) (ltb c b) false
above_least c a b = ⊎_elim
    (λ (g : a ≤ c). le-ltb c (min a b) (omega arith) ∙ sym (ap (λ (s : Bool). cond s (ltb c b) false) (le-ltb c a g)))
    (λ (g : c < a). ⊎_elim
    (λ (k : b ≤ c). le-ltb c (min a b) (omega arith) ∙ sym (ap₂ (λ (s u : Bool). cond s u false) (lt-ltb c a g) (le-ltb c b k)))
    (λ (k : c < b). lt-ltb c (min a b) (omega arith) ∙ sym (ap₂ (λ (s u : Bool). cond s u false) (lt-ltb c a g) (lt-ltb c b k)))
    (le_or_lt b c))
    (le_or_lt a c)

pub least_above : (c : ℕ) (f g : ℕ → ℕ) (o n : ℕ) → Agree o n (λ i. ltb c (f i)) (λ i. ltb c (g i)) → ltb c (least f o n) ≡ ltb c (least g o n)
unfolding least
least_above c f g o zero h = refl
least_above c f g o (suc zero) h = h o (omega arith) (omega arith)
least_above c f g o (suc (suc n)) h =
    above_least c (least f o (suc n)) (f (o + suc n))
    ∙ ap₂ (λ (s u : Bool). cond s u false)
    (least_above c f g o (suc n) (shorter o (suc n) (λ i. ltb c (f i)) (λ i. ltb c (g i)) h)) (last o (suc n) (λ i. ltb c (f i)) (λ i. ltb c (g i)) h)
    ∙ sym (above_least c (least g o (suc n)) (g (o + suc n)))

pub every_cong : (t u : ℕ → Bool) (o n : ℕ) → Agree o n t u → every t o n ≡ every u o n
unfolding every
every_cong t u o zero h = refl
every_cong t u o (suc n) h = ap₂ (λ (x y : Bool). cond x y false) (last o n t u h) (every_cong t u o n (shorter o n t u h))

pub seek_cong : (t u : ℕ → Bool) (o n : ℕ) → Agree o n t u → seek t o n ≡ seek u o n
unfolding seek
seek_cong t u o zero h = refl
seek_cong t u o (suc n) h =
    ap₂ (λ (x : Bool) (y : ℕ). cond x o y) (h o (omega arith) (omega arith))
    (seek_cong t u (suc o) n (λ i p q. h i (omega arith) (omega arith)))
