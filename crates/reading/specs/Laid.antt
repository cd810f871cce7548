-- Numbers laid into an array one by one: `sets old i vs` is old with vs in the places i, i + 1, .., as far as it has places. What a caller
-- finds in the counted places.
-- Assumes nothing.
use Rattle.std.specs.Prelude.{◌≡◌, List, [], ◌∷◌, ◌++◌, ℕ, suc, ◌+◌, ◌≤◌, length, take, drop, set}
use Rattle.std.proofs.Common.{sym, ap, ◌∙◌, add-zero, arith, take_at}
use Rattle.std.proofs.lemmas.List.Edits.{sets, sets-eq}

module _ {A : Type 0} where
  -- one run behind another
  pub sets_append : (old : List A) (i : ℕ) (xs ys : List A) → sets old i (xs ++ ys) ≡ sets (sets old i xs) (i + length xs) ys
  sets_append old i [] ys = ap (λ (j : ℕ). sets old j ys) (sym (add-zero i))
  sets_append old i (x ∷ xs) ys =
      let e : suc i + length xs ≡ i + suc (length xs) = omega arith in
      sets_append (set old i x) (suc i) xs ys ∙ ap (λ (j : ℕ). sets (sets (set old i x) (suc i) xs) j ys) e

  -- the counted places hold the numbers
  pub take-laid : (old vs : List A) (n : ℕ) → length vs ≡ n → n ≤ length old → take n (sets old 0 vs) ≡ vs
  take-laid old vs n e h = ap (take n) (sets-eq vs old 0 (omega arith)) ∙ take_at vs (drop (0 + length vs) old) n e
