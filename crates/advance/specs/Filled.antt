-- An array whose first places a loop sets, one after the other: the definition, and what is read back.
-- Assumes nothing.
use Rattle.std.specs.Prelude.{◌≡◌, Bool, true, false, List, ltb}
use Rattle.std.proofs.Math.Path.{refl, ap, subst}
use Rattle.std.proofs.Common.{sym, ◌∙◌, add-one, get_or-set_same, ltb-true, ltb-false}
use Prim.Native.Nat.{ℕ, zero, suc, ◌+◌, ◌≤◌, ◌<◌}
use native.Mathlib.Omega.{arith}
use Rattle.std.proofs.Math.ListN.{length, get_or, set, length-set}
use Rattle.std.proofs.Math.Seq.{get_or-set_other, set-get_or}

-- a test, as a case
pub by_lt : {P : Type 0} (a b : ℕ) → (a < b → P) → (b ≤ a → P) → P
by_lt {P} a b below above = go (ltb a b) refl
  where
    go : (t : Bool) → ltb a b ≡ t → P
    go true e = below (ltb-true a b e)
    go false e = above (ltb-false a b e)

module _ {A : Type 0} where
  -- the array a with f 0, f 1, .. in its first n places
  unfoldable pub filled_to : List A → (ℕ → A) → ℕ → List A
  filled_to a f zero = a
  filled_to a f (suc n) = set (filled_to a f n) n (f n)

  module _ (a : List A) (f : ℕ → A) where
    pub filled_none : a ≡ filled_to a f 0
    unfolding filled_to
    filled_none = refl

    -- one more
    pub filled_more : (k : ℕ) (l : List A) (x : A) → l ≡ filled_to a f k → x ≡ f k → set l k x ≡ filled_to a f (k + 1)
    unfolding filled_to
    filled_more k l x e g = (λ i. set (e i) k (g i)) ∙ ap (filled_to a f) (sym (add-one k))

    pub filled_length : (n : ℕ) → length (filled_to a f n) ≡ length a
    unfolding filled_to
    filled_length zero = refl
    filled_length (suc n) = length-set (filled_to a f n) n (f n) ∙ filled_length n

    -- behind the first n it is as it was
    pub filled_above : (d : A) (n k : ℕ) → n ≤ k → get_or (filled_to a f n) k d ≡ get_or a k d
    unfolding filled_to
    filled_above d zero k h = refl
    filled_above d (suc n) k h = get_or-set_other (filled_to a f n) n k (f n) d (omega arith) ∙ filled_above d n k (omega arith)

    pub filled_at : (d : A) (n k : ℕ) → k < n → n ≤ length a → get_or (filled_to a f n) k d ≡ f k
    unfolding filled_to
    filled_at d zero k h l = absurd (let z : ⊥ = omega arith in z)
    filled_at d (suc n) k h l =
        by_lt k n
        (λ lt. get_or-set_other (filled_to a f n) n k (f n) d (let g : (k ≡ n → ⊥) = omega arith in g) ∙ filled_at d n k lt (let g : n ≤ length a = omega arith in g))
        (λ le. subst (λ (j : ℕ). get_or (set (filled_to a f n) n (f n)) j d ≡ f j) (let g : n ≡ k = omega arith in g)
        (get_or-set_same (filled_to a f n) n (f n) d (subst (λ (m : ℕ). n < m) (sym (filled_length n)) (let g : n < length a = omega arith in g))))

    pub filled_same : (d : A) (n : ℕ) → ((k : ℕ) → k < n → f k ≡ get_or a k d) → filled_to a f n ≡ a
    unfolding filled_to
    filled_same d zero h = refl
    filled_same d (suc n) h =
        (λ i. set (filled_same d n (λ k q. h k (let g : k < suc n = omega arith in g)) i) n (h n (let g : n < suc n = omega arith in g) i))
        ∙ set-get_or a n d
