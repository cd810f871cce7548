-- Laws of the loops over counters and over places behind the counts: what is left from place i on says what the whole says.
-- Assumes nothing.
use mathlib.Core.Path.{◌≡◌, refl, sym, ap}
use mathlib.Core.Bool.{Bool, true, false, cond, ◌&&◌}
use mathlib.Core.List.{List, [], ◌∷◌}
use Prim.Native.Nat.{ℕ, ◌%◌}
use native.Mathlib.Omega.{arith}
use lib.Dec.{ltb, leb, eqb}
use lib.ListN.{length, get_or, take}
use Rattle.strided.specs.Layout.{within}
use Rattle.strided.specs.Walk.{effective, cut, cut_axes}
use Rattle.strided.specs.Step.{blank, insideb, on_startb, zerosb}

-- ---- each counter of cut axes is below its extent

inside_within : (es bs c : List ℕ) → insideb (cut es bs) c ≡ within es c
inside_within [] bs [] = refl
inside_within [] bs (x ∷ c) = refl
inside_within (e ∷ es) [] [] = refl
inside_within (e ∷ es) (b ∷ bs) [] = refl
inside_within (e ∷ es) [] (x ∷ c) = ap (λ (t : Bool). ltb x e && t) (inside_within es [] c)
inside_within (e ∷ es) (b ∷ bs) (x ∷ c) = ap (λ (t : Bool). ltb x e && t) (inside_within es bs c)

pub within_inside : (es bs c : List ℕ) → within es c ≡ insideb (cut_axes es bs) c
within_inside es bs c = sym (inside_within es _ c)

zeros-blank : (es bs c : List ℕ) → length c ≡ length es → zerosb (cut es bs) c ≡ blank c
zeros-blank [] bs [] h = refl
zeros-blank [] bs (x ∷ c) h = absurd (omega arith)
zeros-blank (e ∷ es) bs [] h = absurd (omega arith)
zeros-blank (e ∷ es) [] (x ∷ c) h = ap (λ (t : Bool). eqb x 0 && t) (zeros-blank es [] c (omega arith))
zeros-blank (e ∷ es) (b ∷ bs) (x ∷ c) h = ap (λ (t : Bool). eqb x 0 && t) (zeros-blank es bs c (omega arith))

pub blank-zeros : (es bs c : List ℕ) → length c ≡ length es → blank c ≡ zerosb (cut_axes es bs) c
blank-zeros es bs c h = sym (zeros-blank es _ c h)

-- ---- the counter of axis 0

pub start_test : (es bs c : List ℕ) → length bs ≡ length es → length c ≡ length es → (length es ≡ 0 → ⊥)
    → eqb (get_or c 0 0 % effective (get_or es 0 0) (get_or bs 0 0)) 0 ≡ on_startb (cut_axes es bs) c
start_test [] bs c p q h = absurd (h refl)
start_test (e ∷ es) [] c p q h = absurd (omega arith)
start_test (e ∷ es) (b ∷ bs) [] p q h = absurd (omega arith)
start_test (e ∷ es) (b ∷ bs) (x ∷ c) p q h = go (leb (length (e ∷ es)) 8)
  where
    go : (t : Bool) → eqb (x % effective e b) 0 ≡ on_startb (cut (e ∷ es) (cond t (b ∷ bs) (take 1 (b ∷ bs)))) (x ∷ c)
    go true = refl
    go false = refl
