-- Loops that fill an array: after i turns it is `padded size z (map f (run 0 i))`, the first i places by the rule f and z behind them.
-- Before the first turn that is `fill_none`, a turn's store is `fill_next`, and what is read back is `fill_at`. Assumes nothing.
use Rattle.std.specs.Prelude.{◌≡◌, refl, List, [], ◌∷◌, ◌++◌, map, ℕ, zero, suc, ◌+◌, ◌-◌, ◌≤◌, ◌<◌, length, get_or, set, drop, replicate}
use Rattle.std.proofs.Common.{sym, ap, ◌∙◌, add-one, arith}
use Rattle.std.proofs.lemmas.List.{length-map}
use Rattle.strided.specs.Base.{padded, run}
use Rattle.laws.specs.Base.Lists.{length_run}

-- ---- lists by a rule for each number

module _ {A : Type 0} where
  pub length-rows : (f : ℕ → A) (s n : ℕ) → length (map f (run s n)) ≡ n
  length-rows f s n = length-map (run s n) f ∙ length_run s n

  pub rows-later : (f : ℕ → A) (n s : ℕ) → map f (run (suc s) n) ≡ map (λ i. f (suc i)) (run s n)
  rows-later f zero s = refl
  rows-later f (suc n) s = ap (λ r. f (suc s) ∷ r) (rows-later f n (suc s))

  -- the same for each number
  pub rows_alike : (a : A) (s n : ℕ) → map (λ (i : ℕ). a) (run s n) ≡ replicate n a
  rows_alike a s zero = refl
  rows_alike a s (suc n) = ap (λ r. a ∷ r) (rows_alike a (suc s) n)

module _ {A B : Type 0} where
  -- one rule after the other
  pub rows-map : (g : A → B) (f : ℕ → A) (s n : ℕ) → map g (map f (run s n)) ≡ map (λ i. g (f i)) (run s n)
  rows-map g f s zero = refl
  rows-map g f s (suc n) = ap (λ r. g (f s) ∷ r) (rows-map g f (suc s) n)

  -- what is done with each element, as a rule for each place
  pub by_places : (g : A → B) (d : A) (xs : List A) → map g xs ≡ map (λ i. g (get_or xs i d)) (run 0 (length xs))
  by_places g d [] = refl
  by_places g d (x ∷ xs) = ap (λ r. g x ∷ r) (by_places g d xs ∙ sym (rows-later (λ i. g (get_or (x ∷ xs) i d)) (length xs) 0))

-- ---- arrays with a count

module _ {A : Type 0} where
  pub fill_none : (size : ℕ) (z : A) → replicate size z ≡ padded size z []
  fill_none zero z = refl
  fill_none (suc n) z = ap (λ r. z ∷ r) (fill_none n z)

  -- the store of a turn, for an array filled from s on
  store : (size : ℕ) (z : A) (f : ℕ → A) (n s : ℕ) → n < size
      → set (padded size z (map f (run s n))) n (f (s + n)) ≡ padded size z (map f (run s (suc n)))
  store zero z f n s h = absurd (bad h)
    where
      bad : n < 0 → ⊥
      bad h = omega arith
  store (suc m) z f zero s h = let e : s + 0 ≡ s = omega arith in rw e
  store (suc m) z f (suc n) s h =
      let e : s + suc n ≡ suc s + n = omega arith in
      rw e (ap (λ r. f s ∷ r) (store m z f n (suc s) (omega arith)))

  -- f n is stored at place n
  pub fill_next : (size : ℕ) (z : A) (f : ℕ → A) (n : ℕ) → n < size
      → set (padded size z (map f (run 0 n))) n (f n) ≡ padded size z (map f (run 0 (n + 1)))
  fill_next size z f n h =
      let e : 0 + n ≡ n = omega arith in
      let p : set (padded size z (map f (run 0 n))) n (f (0 + n)) ≡ padded size z (map f (run 0 (suc n))) = store size z f n 0 h in
      rw add-one (rw e at p)

  -- what is read back, whatever stands for a place that is not there
  pub fill_at : (size : ℕ) (z d : A) (f : ℕ → A) (n i : ℕ) → i < n → n ≤ size → get_or (padded size z (map f (run 0 n))) i d ≡ f i
  fill_at size z d f n i h l = let e : 0 + i ≡ i = omega arith in read size f n 0 i h l ∙ ap f e
    where
      read : (size : ℕ) (f : ℕ → A) (n s i : ℕ) → i < n → n ≤ size → get_or (padded size z (map f (run s n))) i d ≡ f (s + i)
      read zero f n s i h l = absurd (bad h l)
        where
          bad : i < n → n ≤ 0 → ⊥
          bad h l = omega arith
      read (suc m) f zero s i h l = absurd (bad h)
        where
          bad : i < 0 → ⊥
          bad h = omega arith
      read (suc m) f (suc n) s zero h l = let e : s + 0 ≡ s = omega arith in rw e
      read (suc m) f (suc n) s (suc i) h l = let e : s + suc i ≡ suc s + i = omega arith in rw e (read m f n (suc s) i (omega arith) (omega arith))

  -- the next place to fill
  pub fill_here : (size : ℕ) (z d : A) (f : ℕ → A) (n : ℕ) → n < size → get_or (padded size z (map f (run 0 n))) n d ≡ z
  fill_here size z d f n h = read size n 0 h
    where
      read : (size n s : ℕ) → n < size → get_or (padded size z (map f (run s n))) n d ≡ z
      read zero n s h = absurd (bad h)
        where
          bad : n < 0 → ⊥
          bad h = omega arith
      read (suc m) zero s h = refl
      read (suc m) (suc n) s h = read m n (suc s) (omega arith)

  -- the places behind the count, and the array as its list and those
  pub drop_behind : (size r : ℕ) (z : A) (xs : List A) → length xs ≤ r → drop r (padded size z xs) ≡ padded (size - r) z []
  drop_behind size zero z [] h = let e : size - 0 ≡ size = omega arith in rw e
  drop_behind size zero z (x ∷ xs) h = absurd (bad h)
    where
      bad : suc (length xs) ≤ 0 → ⊥
      bad h = omega arith
  drop_behind zero (suc r) z xs h = let e : 0 - suc r ≡ 0 = omega arith in rw e
  drop_behind (suc n) (suc r) z [] h = let e : suc n - suc r ≡ n - r = omega arith in rw e (drop_behind n r z [] (omega arith))
  drop_behind (suc n) (suc r) z (x ∷ xs) h = let e : suc n - suc r ≡ n - r = omega arith in rw e (drop_behind n r z xs (omega arith))

  pub padded_is : (size : ℕ) (z : A) (xs : List A) → length xs ≤ size → padded size z xs ≡ xs ++ padded (size - length xs) z []
  padded_is size z [] h = let e : size - 0 ≡ size = omega arith in rw e
  padded_is zero z (x ∷ xs) h = absurd (bad h)
    where
      bad : suc (length xs) ≤ 0 → ⊥
      bad h = omega arith
  padded_is (suc n) z (x ∷ xs) h =
      let e : suc n - suc (length xs) ≡ n - length xs = omega arith in
      rw e (ap (λ r. x ∷ r) (padded_is n z xs (omega arith)))

  -- what is read from the array at any place is what is read from the list
  pub read_padded : (size : ℕ) (z : A) (xs : List A) → length xs ≤ size → (i : ℕ) → get_or (padded size z xs) i z ≡ get_or xs i z
  read_padded zero z [] h i = refl
  read_padded zero z (x ∷ xs) h i = absurd (bad h)
    where
      bad : suc (length xs) ≤ 0 → ⊥
      bad h = omega arith
  read_padded (suc n) z [] h zero = refl
  read_padded (suc n) z [] h (suc i) = read_padded n z [] (omega arith) i
  read_padded (suc n) z (x ∷ xs) h zero = refl
  read_padded (suc n) z (x ∷ xs) h (suc i) = read_padded n z xs (omega arith) i
