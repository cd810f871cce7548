-- Blocks that are put at 1 in one go. Assumes nothing.
use mathlib.Core.Path.{◌≡◌, refl, sym, ap, ap₂, ◌∙◌}
use mathlib.Core.List.{List, [], ◌∷◌, ◌++◌}
use Prim.Native.Nat.{ℕ, zero, suc, ◌+◌, ◌≤◌, ◌<◌}
use native.Mathlib.Omega.{arith}
use lib.ListN.{length, take, drop, set, replicate, length-drop}
use lib.Seq.{length-take-le}
use Rattle.strided.specs.Cut.{ones}

next : (n : ℕ) (s : List ℕ) → n < length s → set (replicate n 1 ++ drop n s) n 1 ≡ replicate (suc n) 1 ++ drop (suc n) s
next zero [] h = absurd (omega (arith, h))
next zero (x ∷ s) h = refl
next (suc n) [] h = absurd (omega (arith, h))
next (suc n) (x ∷ s) h = ap (λ r. 1 ∷ r) (next n s (omega arith))

first : (n : ℕ) (s : List ℕ) → n ≤ length s → ones 0 n s ≡ replicate n 1 ++ drop n s
unfolding ones
first zero s h = refl
first (suc n) s h = let e : 0 + n ≡ n = omega arith in ap₂ (λ (r : List ℕ) (k : ℕ). set r k 1) (first n s (omega arith)) e ∙ next n s (omega arith)

later : (o n x : ℕ) (s : List ℕ) → ones (suc o) n (x ∷ s) ≡ x ∷ ones o n s
unfolding ones
later o zero x s = refl
later o (suc n) x s = let e : suc o + n ≡ suc (o + n) = omega arith in ap₂ (λ (r : List ℕ) (k : ℕ). set r k 1) (later o n x s) e

ones_are : (o n : ℕ) (s : List ℕ) → o + n ≤ length s → ones o n s ≡ take o s ++ (replicate n 1 ++ drop n (drop o s))
ones_are zero n s h = first n s (omega arith)
ones_are (suc o) n [] h = absurd (omega (arith, h))
ones_are (suc o) n (x ∷ s) h = later o n x s ∙ ap (λ r. x ∷ r) (ones_are o n s (omega arith))

-- what `fill` leaves of the blocks between two places
pub filled : (o n : ℕ) (s fs : List ℕ) → o + n ≤ length s → fs ≡ replicate (length (take n (drop o s))) 1 → take o s ++ (fs ++ drop n (drop o s)) ≡ ones o n s
filled o n s fs h e =
    let l : length (take n (drop o s)) ≡ n = length-take-le n (drop o s) (omega (arith, length-drop o s)) in
    ap (λ (f : List ℕ). take o s ++ (f ++ drop n (drop o s))) (e ∙ ap (λ (k : ℕ). replicate k 1) l) ∙ sym (ones_are o n s h)
