-- Two lists side by side: the test of an index against extents, and the first number below its bound. Assumes nothing.
use mathlib.Core.Path.{◌≡◌, refl, sym, ap, ◌∙◌, subst}
use mathlib.Core.Bool.{Bool, true, false, ◌&&◌, and-false}
use mathlib.Core.List.{List, [], ◌∷◌}
use mathlib.Core.Logic.{⊎_elim}
use Prim.Native.Nat.{ℕ, zero, suc, ◌+◌, ◌≤◌, ◌<◌}
use native.Mathlib.Nat.{eq-or-lt_of_le}
use native.Mathlib.Omega.{arith}
use lib.Dec.{ltb}
use lib.ListN.{length, get_or}
use borrow.Author.Tests.{lt-ltb, le-ltb}
use Rattle.std.specs.Prelude.{Option, Some, None, MatchOption}
use Rattle.std.specs.List.{list_all, zip, AllWithin, HoldsAt}
use Rattle.std.proofs.lemmas.Slice.Zip.{length-zip, get_or-zip}
use Rattle.strided.specs.Base.{seek}
use Rattle.strided.specs.Layout.{within}
use Rattle.strided.specs.Decline.{first_cut}
use Rattle.laws.specs.Cut.Ranges.{cond_true, cond_false}
use Rattle.layout.specs.Below.{FirstBelow}

pub other_length : (es xs : List ℕ) → (length xs ≡ length es → ⊥) → within es xs ≡ false
other_length [] [] f = absurd (f refl)
other_length [] (x ∷ xs) f = refl
other_length (e ∷ es) [] f = refl
other_length (e ∷ es) (x ∷ xs) f =
    ap (λ (b : Bool). ltb x e && b) (other_length es xs (λ q. f (ap suc q))) ∙ and-false (ltb x e)

-- told pair by pair
pub within_zip : (es xs : List ℕ) → length xs ≡ length es → list_all (λ p. ltb p.0 p.1) (zip xs es) ≡ within es xs
within_zip [] [] h = refl
within_zip [] (x ∷ xs) h = absurd (omega arith)
within_zip (e ∷ es) [] h = absurd (omega arith)
within_zip (e ∷ es) (x ∷ xs) h = ap (λ (b : Bool). ltb x e && b) (within_zip es xs (omega arith))

-- ---- the first place at which a test holds

module _ (t : ℕ → Bool) where
  seek_past : (o n m : ℕ) → o + n ≡ m → ((j : ℕ) → o ≤ j → j < m → t j ≡ false) → seek t o n ≡ m
  unfolding seek
  seek_past o zero m e h = omega (arith, e)
  seek_past o (suc n) m e h =
      cond_false (t o) o (seek t (suc o) n) (h o (omega arith) (omega (arith, e))) ∙ seek_past (suc o) n m (omega (arith, e)) (λ j p q. h j (omega arith) q)

  seek_at : (o n i : ℕ) → o ≤ i → i < o + n → ((j : ℕ) → o ≤ j → j < i → t j ≡ false) → t i ≡ true → seek t o n ≡ i
  unfolding seek
  seek_at o zero i p q h e = absurd (omega arith)
  seek_at o (suc n) i p q h e = ⊎_elim
      (λ (s : o ≡ i). cond_true (t o) o (seek t (suc o) n) (ap t s ∙ e) ∙ s)
      (λ (s : o < i). cond_false (t o) o (seek t (suc o) n) (h o (omega arith) s) ∙ seek_at (suc o) n i (omega (arith, s)) (omega arith) (λ j a b. h j (omega arith) b) e)
      (eq-or-lt_of_le p)

-- ---- the first number below its bound

module _ (ns bs : List ℕ) (same : length ns ≡ length bs) where
  pairs : length (zip ns bs) ≡ length ns
  pairs = let l = length-zip ns bs in omega (arith, l, same)

  pair : (P : ℕ × ℕ → Type 0) (j : ℕ) → j < length ns → P (get_or (zip ns bs) j (0, 0)) → P (get_or ns j 0, get_or bs j 0)
  pair P j h p = subst P (get_or-zip ns bs j (0, 0) h (omega (arith, same))) p

  module _ (n : ℕ) (h : AllWithin (λ p. p.1 ≤ p.0) (zip ns bs) 0 n) (m : n ≤ length ns) where
    above : (j : ℕ) → j < n → get_or bs j 0 ≤ get_or ns j 0
    above j q = pair (λ p. p.1 ≤ p.0) j (omega arith) (h j (0, 0) (omega arith) q)

    not_below : (j : ℕ) → 0 ≤ j → j < n → ltb (get_or ns j 0) (get_or bs j 0) ≡ false
    not_below j p q = le-ltb _ _ (above j q)

  pub first_of_zip : (r : Option ℕ) → MatchOption r (AllWithin (λ p. p.1 ≤ p.0) (zip ns bs) 0 (length (zip ns bs)))
      (λ i. (i < length (zip ns bs)) × HoldsAt (λ p. p.0 < p.1) (zip ns bs) i × AllWithin (λ p. p.1 ≤ p.0) (zip ns bs) 0 i)
      → FirstBelow ns bs r
  unfolding first_cut
  first_of_zip None h =
      let a : AllWithin (λ p. p.1 ≤ p.0) (zip ns bs) 0 (length ns) = subst (AllWithin (λ p. p.1 ≤ p.0) (zip ns bs) 0) pairs h in
      (sym (seek_past (λ j. ltb (get_or ns j 0) (get_or bs j 0)) 0 (length ns) (length ns) (omega arith) (not_below (length ns) a (omega arith))), above (length ns) a (omega arith))
  first_of_zip (Some i) h =
      let l : i < length ns = omega (arith, h.0, pairs) in
      let b : get_or ns i 0 < get_or bs i 0 = pair (λ p. p.0 < p.1) i l (h.1 (0, 0)) in (
        sym (seek_at (λ j. ltb (get_or ns j 0) (get_or bs j 0)) 0 (length ns) i (omega arith) (omega (arith, l)) (not_below i h.2 (omega (arith, l))) (lt-ltb _ _ b)),
        l,
        b,
        above i h.2 (omega (arith, l)),
      )
