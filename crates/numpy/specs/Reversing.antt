-- Lists read from the last element on.
-- Assumes nothing.
use Rattle.std.specs.Prelude.{◌≡◌, refl, ◌⊎◌, Bool, true, false, ◌||◌, List, [], ◌∷◌, ◌++◌, map, ℕ, zero, suc, ◌-◌, ◌*◌, ◌≤◌, ◌<◌, length, get_or}
use Rattle.std.proofs.Common.{sym, ap, ◌∙◌, inl, inr, append_assoc, append-nil, mul-one, one-mul, mul_assoc, eq-or-lt_of_le, arith, length-append}
use Rattle.std.proofs.Math.ListN.{get_or-append}
use mathlib.Core.List.{reverse}
use Rattle.std.proofs.lemmas.Grind.{reverse_onto}
use Rattle.std.proofs.lemmas.List.{get_or_at}
use Rattle.strided.specs.Layout.{total}
use Rattle.strided.specs.Text.{Each}
use Rattle.laws.specs.Base.Tests.{or_none}
use Rattle.std.specs.List.{list_any}
use Rattle.numpy.specs.Numpy.{reversed}

module _ {A : Type 0} where
  pub length-reversed : (xs : List A) → length (reversed xs) ≡ length xs
  length-reversed [] = refl
  length-reversed (x ∷ xs) = let l = length-append (reversed xs) (x ∷ []) in let i = length-reversed xs in omega arith

  pub reversed-append : (xs ys : List A) → reversed (xs ++ ys) ≡ reversed ys ++ reversed xs
  reversed-append [] ys = sym (append-nil (reversed ys))
  reversed-append (x ∷ xs) ys = ap (λ (l : List A). l ++ (x ∷ [])) (reversed-append xs ys) ∙ append_assoc (reversed ys) (reversed xs) (x ∷ [])

  -- twice is not at all
  pub reversed_twice : (xs : List A) → reversed (reversed xs) ≡ xs
  reversed_twice [] = refl
  reversed_twice (x ∷ xs) = reversed-append (reversed xs) (x ∷ []) ∙ ap (λ (l : List A). x ∷ l) (reversed_twice xs)

  -- the library's word for it
  pub reverse-reversed : (xs : List A) → reverse xs ≡ reversed xs
  reverse-reversed [] = refl
  reverse-reversed (x ∷ xs) = reverse_onto xs x [] ∙ ap (λ (l : List A). l ++ (x ∷ [])) (reverse-reversed xs)

  -- element i is the i-th from the end
  pub get_d_reversed : (xs : List A) (d : A) (i : ℕ) → i < length xs → get_or (reversed xs) i d ≡ get_or xs (length xs - 1 - i) d
  get_d_reversed [] d i h = absurd (omega arith)
  get_d_reversed (x ∷ xs) d i h = go (eq-or-lt_of_le (let l : i ≤ length xs = omega arith in l)) (get_d_reversed xs d i)
    where
      go : (i ≡ length xs) ⊎ (i < length xs) → (i < length xs → get_or (reversed xs) i d ≡ get_or xs (length xs - 1 - i) d)
          → get_or (reversed xs ++ (x ∷ [])) i d ≡ get_or (x ∷ xs) (suc (length xs) - 1 - i) d
      go (inl e) ih =
          let z : suc (length xs) - 1 - i ≡ 0 = omega arith in
          get_or_at (reversed xs) x [] d i (length-reversed xs ∙ sym e) ∙ ap (λ (k : ℕ). get_or (x ∷ xs) k d) (sym z)
      go (inr l) ih =
          let z : suc (length xs) - 1 - i ≡ suc (length xs - 1 - i) = omega arith in
          get_or-append (reversed xs) (x ∷ []) d i (omega (arith, length-reversed xs, l)) ∙ ih l ∙ ap (λ (k : ℕ). get_or (x ∷ xs) k d) (sym z)

  -- what each element is, each is still
  each_append : (P : A → Type 0) (xs ys : List A) → Each P xs → Each P ys → Each P (xs ++ ys)
  each_append P [] ys p q = q
  each_append P (x ∷ xs) ys p q = (p.0, each_append P xs ys p.1 q)

  pub each_reversed : (P : A → Type 0) (xs : List A) → Each P xs → Each P (reversed xs)
  each_reversed P [] p = tt
  each_reversed P (x ∷ xs) p = each_append P (reversed xs) (x ∷ []) (each_reversed P xs p.1) (p.0, tt)

  -- tests
  pub any_append : (t : A → Bool) (xs ys : List A) → list_any t (xs ++ ys) ≡ (list_any t xs || list_any t ys)
  any_append t [] ys = refl
  any_append t (x ∷ xs) ys = go (t x) (any_append t xs ys)
    where
      go : (b : Bool) → list_any t (xs ++ ys) ≡ (list_any t xs || list_any t ys) → (b || list_any t (xs ++ ys)) ≡ ((b || list_any t xs) || list_any t ys)
      go true e = refl
      go false e = e

  pub any_reversed : (t : A → Bool) (xs : List A) → list_any t xs ≡ false → list_any t (reversed xs) ≡ false
  any_reversed t [] h = refl
  any_reversed t (x ∷ xs) h =
      let p = or_none (t x) (list_any t xs) h in
      any_append t (reversed xs) (x ∷ []) ∙ rw (any_reversed t xs p.1, p.0)

  -- none of them, so not this one
  pub any_at : (t : A → Bool) (xs : List A) (d : A) (i : ℕ) → i < length xs → list_any t xs ≡ false → t (get_or xs i d) ≡ false
  any_at t [] d i l h = absurd (omega arith)
  any_at t (x ∷ xs) d zero l h = (or_none (t x) (list_any t xs) h).0
  any_at t (x ∷ xs) d (suc i) l h = any_at t xs d i (omega arith) (or_none (t x) (list_any t xs) h).1

module _ {A B : Type 0} (f : A → B) where
  map-append : (xs ys : List A) → map f (xs ++ ys) ≡ map f xs ++ map f ys
  map-append [] ys = refl
  map-append (x ∷ xs) ys = ap (λ (l : List B). f x ∷ l) (map-append xs ys)

  pub reversed-map : (xs : List A) → reversed (map f xs) ≡ map f (reversed xs)
  reversed-map [] = refl
  reversed-map (x ∷ xs) = ap (λ (l : List B). l ++ (f x ∷ [])) (reversed-map xs) ∙ sym (map-append (reversed xs) (x ∷ []))

pub total-append : (es : List ℕ) (e : ℕ) → total (es ++ (e ∷ [])) ≡ total es * e
total-append [] e = mul-one e ∙ sym (one-mul e)
total-append (x ∷ es) e = ap (λ (n : ℕ). x * n) (total-append es e) ∙ sym (mul_assoc x (total es) e)
