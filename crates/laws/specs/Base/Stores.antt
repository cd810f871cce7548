-- Stores into arrays with a count: what a loop that fills one place after another has made, also behind rows that stand already.
-- Assumes nothing.
use Rattle.std.specs.Prelude.{◌≡◌, refl, List, [], ◌∷◌, ◌++◌, ℕ, zero, suc, ◌+◌, ◌-◌, ◌≤◌, ◌<◌, length, get_or, take, drop, set, replicate}
use Rattle.std.proofs.Common.{sym, ap, ap₂, ◌∙◌, append_assoc, add-one, arith, length-append, length-take-le, take-suc}
use Rattle.strided.specs.Base.{padded}
use Rattle.laws.specs.Base.Filling.{fill_none, drop_behind, padded_is}

module _ {A : Type 0} (z : A) where
  -- the first places of an array of z are z
  pub blank-first : (n k : ℕ) → k ≤ n → replicate n z ≡ padded n z (replicate k z)
  blank-first n zero h = fill_none n z
  blank-first zero (suc k) h = absurd (bad h)
    where
      bad : suc k ≤ 0 → ⊥
      bad h = omega arith
  blank-first (suc n) (suc k) h = ap (λ r. z ∷ r) (blank-first n k (omega arith))

  -- a row that is written over the first places of an array of z
  pub front-padded : (n r : ℕ) (new xs old : List A) → new ≡ xs → old ≡ replicate n z → length xs ≡ r → r ≤ n → new ++ drop r old ≡ padded n z xs
  front-padded n r new xs old e o l h =
      ap₂ ◌++◌ e (ap (drop r) (o ∙ fill_none n z) ∙ drop_behind n r z [] (omega arith) ∙ ap (λ (k : ℕ). padded (n - k) z []) (sym l))
      ∙ sym (padded_is n z xs (omega (arith, l)))

  -- a store within the count
  pub set-padded : (n : ℕ) (xs : List A) (i : ℕ) (v : A) → i < length xs → set (padded n z xs) i v ≡ padded n z (set xs i v)
  set-padded zero [] i v h = refl
  set-padded zero (x ∷ xs) zero v h = refl
  set-padded zero (x ∷ xs) (suc i) v h = refl
  set-padded (suc n) [] i v h = absurd (bad h)
    where
      bad : i < 0 → ⊥
      bad h = omega arith
  set-padded (suc n) (x ∷ xs) zero v h = refl
  set-padded (suc n) (x ∷ xs) (suc i) v h = ap (λ r. x ∷ r) (set-padded n xs i v (omega arith))

  -- a store in the first place behind the count
  pub set_behind : (n : ℕ) (xs : List A) (v : A) → length xs < n → set (padded n z xs) (length xs) v ≡ padded n z (xs ++ (v ∷ []))
  set_behind zero xs v h = absurd (bad h)
    where
      bad : length xs < 0 → ⊥
      bad h = omega arith
  set_behind (suc n) [] v h = refl
  set_behind (suc n) (x ∷ xs) v h = ap (λ r. x ∷ r) (set_behind n xs v (omega arith))

  -- the next element of vs, behind `front` and those stored before it
  pub fill_next : (n : ℕ) (front vs : List A) (j : ℕ) → length front + length vs ≤ n → j < length vs
      → set (padded n z (front ++ take j vs)) (length front + j) (get_or vs j z) ≡ padded n z (front ++ take (j + 1) vs)
  fill_next n front vs j h l =
      let long : length (front ++ take j vs) ≡ length front + j = length-append front (take j vs) ∙ ap (λ (k : ℕ). length front + k) (length-take-le j vs (omega arith)) in
      let more : take j vs ++ (get_or vs j z ∷ []) ≡ take (j + 1) vs = sym (rw add-one (take-suc vs j z l)) in
      ap (λ (k : ℕ). set (padded n z (front ++ take j vs)) k (get_or vs j z)) (sym long)
      ∙ set_behind n (front ++ take j vs) (get_or vs j z) (omega (arith, long))
      ∙ ap (padded n z) (append_assoc front (take j vs) (get_or vs j z ∷ []) ∙ ap (λ (r : List A). front ++ r) more)

  pub fill_first : (n : ℕ) (vs : List A) (j : ℕ) → length vs ≤ n → j < length vs → set (padded n z (take j vs)) j (get_or vs j z) ≡ padded n z (take (j + 1) vs)
  fill_first n vs j h l = let e : 0 + j ≡ j = omega arith in rw e at (fill_next n [] vs j (omega arith) l)

  -- a padded row at the end is the row
  padded_last : (n m : ℕ) (ys : List A) → m ≤ n → length ys ≤ m → padded n z (padded m z ys) ≡ padded n z ys
  padded_last zero m ys h l = refl
  padded_last (suc n) zero [] h l = refl
  padded_last (suc n) zero (y ∷ ys) h l = absurd (bad l)
    where
      bad : suc (length ys) ≤ 0 → ⊥
      bad l = omega arith
  padded_last (suc n) (suc m) [] h l = ap (λ r. z ∷ r) (padded_last n m [] (omega arith) (omega arith))
  padded_last (suc n) (suc m) (y ∷ ys) h l = ap (λ r. y ∷ r) (padded_last n m ys (omega arith) (omega arith))

  pub padded-row : (n m : ℕ) (xs ys : List A) → length xs + m ≤ n → length ys ≤ m → padded n z (xs ++ padded m z ys) ≡ padded n z (xs ++ ys)
  padded-row n m [] ys h l = padded_last n m ys (omega arith) l
  padded-row zero m (x ∷ xs) ys h l = refl
  padded-row (suc n) m (x ∷ xs) ys h l = ap (λ r. x ∷ r) (padded-row n m xs ys (omega arith) l)
