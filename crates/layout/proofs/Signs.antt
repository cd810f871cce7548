-- Laws of one operand along one axis: the sign of its stride as a local has it, and the part of its way below a counter. Assumes nothing.
use mathlib.Core.Path.{◌≡◌, refl, sym, ap, ◌∙◌, subst}
use mathlib.Core.Bool.{Bool, true, false, cond, false≢true}
use Prim.Native.Nat.{ℕ, ◌-◌, ◌*◌, ◌≤◌, ◌<◌}
use native.Mathlib.Nat.{mul-le-mul_right}
use native.Mathlib.Omega.{arith}
use lib.IntN.{ℤ, pos, negsuc, nat_abs}
use lib.Signed.{lt_z, non_neg}
use borrow.Author.Tests.{ltb-true}
use mir.Syntax.{w64}
use mir.Val.{SFits, to_z, of_z}
use mir.Facts.{to_z-of_z}
use Rattle.laws.specs.Walk.Row9.{below_term}

-- ---- signs

sign : (s : ℤ) (b : Bool) → lt_z s (pos 0) ≡ b → non_neg s ≡ cond b false true
sign (pos n) true h = absurd (let z : ⊥ = omega (arith, ltb-true n 0 h) in z)
sign (pos n) false h = refl
sign (negsuc n) true h = refl
sign (negsuc n) false h = absurd (false≢true (sym h))

sign_read : (s : ℤ) → SFits w64 s → {b : Bool} → lt_z (to_z w64 (of_z w64 s)) (pos 0) ≡ b → non_neg s ≡ cond b false true
sign_read s f {b} h = sign s b (ap (λ (z : ℤ). lt_z z (pos 0)) (sym (to_z-of_z f)) ∙ h)

-- ---- along one axis; n is the stride's size as the code has it

module _ (e x : ℕ) (s : ℤ) (f : SFits w64 s) (h : x < e) (n : ℕ) (is : n ≡ nat_abs s) where
  pub back_le : (e - 1 - x) * n ≤ (e - 1) * nat_abs s
  back_le = subst (λ (m : ℕ). (e - 1 - x) * m ≤ (e - 1) * nat_abs s) (sym is) (mul-le-mul_right (nat_abs s) (let g : e - 1 - x ≤ e - 1 = omega arith in g))

  pub ahead_le : x * n ≤ (e - 1) * nat_abs s
  ahead_le = subst (λ (m : ℕ). x * m ≤ (e - 1) * nat_abs s) (sym is) (mul-le-mul_right (nat_abs s) (let g : x ≤ e - 1 = omega arith in g))

  pub back_is : lt_z (to_z w64 (of_z w64 s)) (pos 0) ≡ true → (e - 1 - x) * n ≡ below_term e x s
  unfolding below_term
  back_is t = ap (λ (m : ℕ). (e - 1 - x) * m) is ∙ sym (ap (λ (b : Bool). cond b (x * nat_abs s) ((e - 1 - x) * nat_abs s)) (sign_read s f t))

  pub ahead_is : lt_z (to_z w64 (of_z w64 s)) (pos 0) ≡ false → x * n ≡ below_term e x s
  unfolding below_term
  ahead_is t = ap (λ (m : ℕ). x * m) is ∙ sym (ap (λ (b : Bool). cond b (x * nat_abs s) ((e - 1 - x) * nat_abs s)) (sign_read s f t))
