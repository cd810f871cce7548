-- How often a number stands in a list, and an index in a list of indices: for the laws of cover and reach.
-- Assumes nothing.
use Rattle.std.specs.Prelude.{◌≡◌, refl, Bool, true, false, cond, ◌⊎◌, List, [], ◌∷◌, map, ℕ, zero, suc, ◌+◌, ◌*◌, ◌≤◌, ◌<◌, eqb, ltb}
use Rattle.std.proofs.Common.{sym, ap₂, ◌∙◌, subst, inl, inr, eq-or-lt_of_le, arith, ltb-true, ltb-false, eqb-true, eq-eqb, ne_eqb}
use Rattle.strided.specs.Base.{over, run}
use Rattle.laws.specs.Base.Lists.{All}
use Rattle.laws.specs.Base.Sums.{sum, mul_pos, sum_cong, sum-zero, sum_scale, sum_scale_right, sum_over, sum-map}

-- 1 if the two are equal, else 0
abbrev pub same : ℕ → ℕ → ℕ
same x y = cond (eqb x y) 1 0

abbrev pub same_list : List ℕ → List ℕ → ℕ
same_list [] [] = 1
same_list [] (y ∷ ys) = 0
same_list (x ∷ xs) [] = 0
same_list (x ∷ xs) (y ∷ ys) = same x y * same_list xs ys

-- how often x stands in l
abbrev pub count : List ℕ → List (List ℕ) → ℕ
count x l = sum l (same_list x)

pub same_eq : (x y : ℕ) → x ≡ y → same x y ≡ 1
same_eq x y e = rw (eq-eqb x y e)

same_ne : (x y : ℕ) → (x ≡ y → ⊥) → same x y ≡ 0
same_ne x y n = rw (ne_eqb x y n)

same_pos : (x y : ℕ) → 0 < same x y → x ≡ y
same_pos x y h = go (eqb x y) refl h
  where
    go : (b : Bool) → eqb x y ≡ b → 0 < cond b 1 0 → x ≡ y
    go true q l = eqb-true x y q
    go false q l = absurd (omega arith)

pub same_list_refl : (x : List ℕ) → same_list x x ≡ 1
same_list_refl [] = refl
same_list_refl (x ∷ xs) = rw (same_eq x x refl, same_list_refl xs)

pub same_list_pos : (x y : List ℕ) → 0 < same_list x y → x ≡ y
same_list_pos [] [] h = refl
same_list_pos [] (y ∷ ys) h = absurd (omega arith)
same_list_pos (x ∷ xs) [] h = absurd (omega arith)
same_list_pos (x ∷ xs) (y ∷ ys) h =
    let p = mul_pos (same x y) (same_list xs ys) h in
    ap₂ (λ a b. a ∷ b) (same_pos x y p.0) (same_list_pos xs ys p.1)

-- what holds of all holds of one that is there
pub all_counted : (P : ℕ → Type 0) (l : List ℕ) (x : ℕ) → All P l → 0 < sum l (same x) → P x
all_counted P [] x a h = absurd (omega arith)
all_counted P (y ∷ ys) x a h = go (ltb 0 (same x y)) refl (all_counted P ys x a.1)
  where
    go : (b : Bool) → ltb 0 (same x y) ≡ b → (0 < sum ys (same x) → P x) → P x
    go true q ih = subst P (sym (same_pos x y (ltb-true 0 (same x y) q))) a.0
    go false q ih = ih (omega (arith, ltb-false 0 (same x y) q))

-- ---- in a run

run-below : (n s x : ℕ) → x < s → sum (run s n) (same x) ≡ 0
run-below zero s x h = refl
run-below (suc n) s x h = omega (arith, same_ne x s (λ (e : x ≡ s). omega arith), run-below n (suc s) x (omega arith))

run_above : (n s x : ℕ) → s + n ≤ x → sum (run s n) (same x) ≡ 0
run_above zero s x h = refl
run_above (suc n) s x h = omega (arith, same_ne x s (λ (e : x ≡ s). omega arith), run_above n (suc s) x (omega arith))

pub run_in_lem : (n s x : ℕ) → s ≤ x → x < s + n → sum (run s n) (same x) ≡ 1
run_in_lem zero s x l h = omega arith
run_in_lem (suc n) s x l h = go (eq-or-lt_of_le l) (λ (q : s < x). run_in_lem n (suc s) x q (omega arith))
  where
    go : (s ≡ x) ⊎ (s < x) → (s < x → sum (run (suc s) n) (same x) ≡ 1) → sum (run s (suc n)) (same x) ≡ 1
    go (inl e) ih = omega (arith, same_eq x s (sym e), run-below n (suc s) x (omega arith))
    go (inr q) ih = omega (arith, same_ne x s (λ (e : x ≡ s). omega arith), ih q)

pub run-whole : (e x : ℕ) → sum (run 0 e) (same x) ≡ cond (ltb x e) 1 0
run-whole e x = go (ltb x e) refl
  where
    go : (b : Bool) → ltb x e ≡ b → sum (run 0 e) (same x) ≡ cond b 1 0
    go true h = run_in_lem e 0 x (omega arith) (omega (arith, ltb-true x e h))
    go false h = run_above e 0 x (omega (arith, ltb-false x e h))

-- ---- among the lists k ∷ v, for k of d and v of l

pub count-row : (x : ℕ) (xs d v : List ℕ) → count (x ∷ xs) (map (λ k. k ∷ v) d) ≡ sum d (same x) * same_list xs v
count-row x xs d v = sum-map d (λ k. k ∷ v) (same_list (x ∷ xs)) ∙ sum_scale_right d (same x) (same_list xs v)

pub count_prod : (x : ℕ) (xs : List ℕ) (l : List (List ℕ)) (d : List ℕ)
    → count (x ∷ xs) (over l (λ v. map (λ k. k ∷ v) d)) ≡ sum d (same x) * count xs l
count_prod x xs l d =
    sum_over l (λ v. map (λ k. k ∷ v) d) (same_list (x ∷ xs))
    ∙ sum_cong l (λ v. count (x ∷ xs) (map (λ k. k ∷ v) d)) (λ v. sum d (same x) * same_list xs v) (λ v. count-row x xs d v)
    ∙ sum_scale l (same_list xs) (sum d (same x))

-- the empty index is none of them
pub nil_row : (d v : List ℕ) → count [] (map (λ k. k ∷ v) d) ≡ 0
nil_row d v = sum-map d (λ k. k ∷ v) (same_list []) ∙ sum-zero d (λ k. 0) (λ k. refl)

pub nil_prod : (l : List (List ℕ)) (d : List ℕ) → count [] (over l (λ v. map (λ k. k ∷ v) d)) ≡ 0
nil_prod l d = sum_over l (λ v. map (λ k. k ∷ v) d) (same_list []) ∙ sum-zero l (λ v. count [] (map (λ k. k ∷ v) d)) (λ v. nil_row d v)
