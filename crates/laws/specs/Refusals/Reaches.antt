-- The reach bounds what 64 bits have to hold: the stride of an axis of extent 2 or more, and with the size its byte stride. Assumes nothing.
use Rattle.std.specs.Prelude.{◌≡◌, List, [], ◌∷◌, ℕ, zero, suc, ◌-◌, ◌*◌, ◌≤◌, ◌<◌, ℤ, pos, nat_abs, length, get_or, drop}
use Rattle.std.proofs.Common.{arith}
use Rattle.strided.specs.Layout.{reach}

-- a term of the sum is at most the sum
pub term_reach : (es : List ℕ) (ts : List ℤ) (i : ℕ) → i < length es → i < length ts → (get_or es i 0 - 1) * nat_abs (get_or ts i (pos 0)) ≤ reach es ts
term_reach [] ts i h g = absurd (bad h)
  where
    bad : i < 0 → ⊥
    bad h = omega arith
term_reach (e ∷ es) [] i h g = absurd (bad g)
  where
    bad : i < 0 → ⊥
    bad h = omega arith
term_reach (e ∷ es) (t ∷ ts) zero h g = omega arith
term_reach (e ∷ es) (t ∷ ts) (suc i) h g = omega (arith, term_reach es ts i (omega arith) (omega arith))

-- the axes from i on reach no further than all
pub reach-drop : (es : List ℕ) (ts : List ℤ) (i : ℕ) → length ts ≡ length es → reach (drop i es) (drop i ts) ≤ reach es ts
reach-drop es ts zero l = omega arith
reach-drop [] [] (suc i) l = omega arith
reach-drop [] (t ∷ ts) (suc i) l = absurd (omega arith)
reach-drop (e ∷ es) [] (suc i) l = absurd (omega arith)
reach-drop (e ∷ es) (t ∷ ts) (suc i) l = omega (arith, reach-drop es ts i (omega arith))
