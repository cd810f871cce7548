-- The reach of the axes of size at most b, axis by axis from the last. Assumes nothing.
use mathlib.Core.Path.{◌≡◌, refl, sym, ap, ap₂, ◌∙◌, subst}
use mathlib.Core.Logic.{◌↔◌}
use mathlib.Core.Bool.{Bool, true, false, cond}
use mathlib.Core.List.{List, [], ◌∷◌}
use Prim.Native.Nat.{ℕ, suc, zero-le, ◌+◌, ◌-◌, ◌*◌, ◌<◌, ◌≤◌}
use native.Mathlib.Nat.{mul-le-mul_right}
use native.Mathlib.Omega.{arith}
use lib.Dec.{ltb, leb}
use lib.IntN.{ℤ, pos, nat_abs}
use lib.ListN.{length, get_or, drop}
use lib.Seq.{drop-cons, drop-length}
use borrow.Author.Tests.{ltb-true, lt-ltb}
use Rattle.strided.specs.Layout.{reach}
use Rattle.laws.specs.Refusals.Reaches.{reach-drop}
use Rattle.laws.specs.Mark.Sizes.{reach_up_to, size_at, ClearAt}

cond_le : (c : Bool) (n : ℕ) → cond c n 0 ≤ n
cond_le true n = omega arith
cond_le false n = zero-le

up-reach : (b : ℕ) (es : List ℕ) (ts : List ℤ) → reach_up_to b es ts ≤ reach es ts
up-reach b [] ts = zero-le
up-reach b (e ∷ es) [] = zero-le
up-reach b (e ∷ es) (t ∷ ts) = omega (arith, up-reach b es ts, cond_le (leb (nat_abs t) b) ((e - 1) * nat_abs t))

module _ (b : ℕ) (es : List ℕ) (ts : List ℤ) (l : length ts ≡ length es) where
  pub up_bound : (i : ℕ) → reach_up_to b (drop i es) (drop i ts) ≤ reach es ts
  up_bound i = omega (arith, up-reach b (drop i es) (drop i ts), reach-drop es ts i l)

  pub up_start : 0 ≡ reach_up_to b (drop (length es) es) (drop (length es) ts)
  up_start = ap (λ (r : List ℕ). reach_up_to b r (drop (length es) ts)) (sym (drop-length es))

  pub up_next : (i : ℕ) → 0 < i → i ≤ length es
      → reach_up_to b (drop (i - 1) es) (drop (i - 1) ts) ≡ cond (leb (size_at ts (i - 1)) b) ((get_or es (i - 1) 0 - 1) * size_at ts (i - 1)) 0 + reach_up_to b (drop i es) (drop i ts)
  up_next i p h =
      let next : suc (i - 1) ≡ i = omega arith in
      ap₂ (reach_up_to b)
      (drop-cons es (i - 1) 0 (omega arith) ∙ ap (λ (k : ℕ). get_or es (i - 1) 0 ∷ drop k es) next)
      (drop-cons ts (i - 1) (pos 0) (omega arith) ∙ ap (λ (k : ℕ). get_or ts (i - 1) (pos 0) ∷ drop k ts) next)

-- an axis of extent above 1 reaches at least its size
pub size_le : (e a : ℕ) → 1 < e → a ≤ (e - 1) * a
size_le e a h = let g : 1 * a ≤ (e - 1) * a = mul-le-mul_right a (let g : 1 ≤ e - 1 = omega arith in g) in omega arith

-- the test of one axis
module _ (es : List ℕ) (ts : List ℤ) (i : ℕ) where
  pub clear_small : get_or es i 0 ≤ 1 → (true ≡ true) ↔ ClearAt es ts i
  clear_small h = ((λ q p. absurd (omega arith)), (λ q. refl))

  pub clear_test : 1 < get_or es i 0 → (r a : ℕ) → r ≡ reach_up_to a es ts → a ≡ size_at ts i → (ltb r ((get_or es i 0 - 1) * a + a) ≡ true) ↔ ClearAt es ts i
  clear_test h r a e q = (
    (λ t p. subst (λ (n : ℕ). reach_up_to n es ts < (get_or es i 0 - 1) * n + n) q (omega (arith, e, ltb-true r ((get_or es i 0 - 1) * a + a) t))),
    (λ c. lt-ltb r ((get_or es i 0 - 1) * a + a) (omega (arith, e, subst (λ (n : ℕ). reach_up_to n es ts < (get_or es i 0 - 1) * n + n) (sym q) (c h)))),
  )
