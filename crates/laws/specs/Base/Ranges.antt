-- Sums and tests over a range of numbers, `sum f o n` and `every t o n` of the definitions. Assumes nothing.
use Rattle.std.specs.Prelude.{◌≡◌, refl, Bool, true, false, cond, ◌&&◌, ◌||◌, ◌⊎◌, ℕ, zero, suc, ◌+◌, ◌*◌, ◌≤◌, ◌<◌}
use Rattle.std.specs.List.{list_all, list_any, range_with_len}
use Rattle.std.proofs.Common.{sym, ap, ap₂, ◌∙◌, ⊎_elim, eq-or-lt_of_le, le_of_suc-le-suc, suc-mul, add-one, arith}
use Rattle.std.proofs.lemmas.Bool.{cases_lt}
use Rattle.strided.specs.Base.{sum, every, some_of}

-- either way of an order
pub below_or : (a b : ℕ) → (a < b) ⊎ (b ≤ a)
below_or a b = cases_lt a b

-- ---- sums

-- one term more, in the words of a loop from 0 on
pub sum-next : (f : ℕ → ℕ) (n : ℕ) → sum f 0 (n + 1) ≡ sum f 0 n + f n
unfolding sum
sum-next f n = let e : 0 + n ≡ n = omega arith in rw add-one (ap (λ (k : ℕ). sum f 0 n + f k) e)

pub sum_mono : (f : ℕ → ℕ) (o k n : ℕ) → k ≤ n → sum f o k ≤ sum f o n
unfolding sum
sum_mono f o k zero h = let e : k ≡ 0 = omega arith in rw e (omega arith)
sum_mono f o k (suc n) h = go (sum_mono f o k n) (eq-or-lt_of_le h)
  where
    go : (k ≤ n → sum f o k ≤ sum f o n) → (k ≡ suc n) ⊎ (k < suc n) → sum f o k ≤ sum f o n + f (o + n)
    go ih = ⊎_elim (λ e. rw e (omega arith)) (λ l. omega (arith, ih (le_of_suc-le-suc l)))

-- a term is at most the sum
pub term_le : (f : ℕ → ℕ) (o k n : ℕ) → k < n → f (o + k) ≤ sum f o n
unfolding sum
term_le f o k n h = omega (arith, sum_mono f o (suc k) n h)

-- terms of at most b
pub sum_le : (f : ℕ → ℕ) (o b n : ℕ) → ((k : ℕ) → f k ≤ b) → sum f o n ≤ n * b
unfolding sum
sum_le f o b zero h = omega arith
sum_le f o b (suc n) h = omega (arith, sum_le f o b n h, h (o + n), suc-mul n b)

-- ---- tests

pub every_holds : (t : ℕ → Bool) (o n : ℕ) → ((k : ℕ) → k < n → t (o + k) ≡ true) → every t o n ≡ true
unfolding every
every_holds t o zero h = refl
every_holds t o (suc n) h = rw (h n (omega arith)) (every_holds t o n (λ k l. h k (omega arith)))

pub every_fails : (t : ℕ → Bool) (o n k : ℕ) → k < n → t (o + k) ≡ false → every t o n ≡ false
unfolding every
every_fails t o zero k h e = absurd (omega arith)
every_fails t o (suc n) k h e = go (every_fails t o n k) (eq-or-lt_of_le (le_of_suc-le-suc h))
  where
    both : (b : Bool) → cond b false false ≡ false
    both true = refl
    both false = refl

    go : (k < n → t (o + k) ≡ false → every t o n ≡ false) → (k ≡ n) ⊎ (k < n) → cond (t (o + n)) (every t o n) false ≡ false
    go ih = ⊎_elim
        (λ (q : k ≡ n). let f : t (o + n) ≡ false = ap (λ (j : ℕ). t (o + j)) (sym q) ∙ e in rw f)
        (λ (l : k < n). rw (ih l e) (both (t (o + n))))

-- one test more, in the words of a loop from 0 on
pub every-next : (t : ℕ → Bool) (n : ℕ) → every t 0 n ≡ true → t n ≡ true → every t 0 (n + 1) ≡ true
unfolding every
every-next t n h g = let e : 0 + n ≡ n = omega arith in rw (add-one, ap t e ∙ g) h

-- the first test apart from the others, as a list has its first number
every_first : (t : ℕ → Bool) (o n : ℕ) → every t o (suc n) ≡ (t o && every t (o + 1) n)
unfolding every
every_first t o zero = let e : o + 0 ≡ o = omega arith in ap (λ (i : ℕ). cond (t i) true false) e ∙ alone (t o)
  where
    alone : (a : Bool) → cond a true false ≡ (a && true)
    alone true = refl
    alone false = refl
every_first t o (suc n) =
    let e : o + suc n ≡ o + 1 + n = omega arith in
    ap₂ (λ (i : ℕ) (b : Bool). cond (t i) b false) e (every_first t o n) ∙ apart (t o) (t (o + 1 + n)) (every t (o + 1) n)
  where
    apart : (a b c : Bool) → cond b (a && c) false ≡ (a && cond b c false)
    apart true b c = refl
    apart false true c = refl
    apart false false c = refl

-- as `all` of a range tells it
pub all_of_range : (t : ℕ → Bool) (o n : ℕ) → list_all t (range_with_len o n) ≡ every t o n
unfolding every
all_of_range t o zero = refl
all_of_range t o (suc n) = ap (λ (b : Bool). t o && b) (all_of_range t (o + 1) n) ∙ sym (every_first t o n)

some_first : (t : ℕ → Bool) (o n : ℕ) → some_of t o (suc n) ≡ (t o || some_of t (o + 1) n)
unfolding some_of
some_first t o zero = let e : o + 0 ≡ o = omega arith in ap (λ (i : ℕ). cond (t i) true false) e ∙ alone (t o)
  where
    alone : (a : Bool) → cond a true false ≡ (a || false)
    alone true = refl
    alone false = refl
some_first t o (suc n) =
    let e : o + suc n ≡ o + 1 + n = omega arith in
    ap₂ (λ (i : ℕ) (b : Bool). cond (t i) true b) e (some_first t o n) ∙ apart (t o) (t (o + 1 + n)) (some_of t (o + 1) n)
  where
    apart : (a b c : Bool) → cond b true (a || c) ≡ (a || cond b true c)
    apart true true c = refl
    apart true false c = refl
    apart false b c = refl

-- as `any` of a range tells it
pub any_of_range : (t : ℕ → Bool) (o n : ℕ) → list_any t (range_with_len o n) ≡ some_of t o n
unfolding some_of
any_of_range t o zero = refl
any_of_range t o (suc n) = ap (λ (b : Bool). t o || b) (any_of_range t (o + 1) n) ∙ sym (some_first t o n)
