-- A step that the code compares with a number of bytes, up or down, both as they lie in a local.
-- Assumes nothing.
use mathlib.Core.Path.{◌≡◌, sym, ap, ◌∙◌}
use Prim.Native.Nat.{ℕ, zero, suc, ◌^◌, ◌<◌}
use native.Mathlib.Omega.{arith}
use lib.IntN.{ℤ, pos, neg_ℤ, ◌-ℤ◌, +ℤ_idl}
use mir.Syntax.{w64}
use mir.Val.{SFits, to_z, of_z}
use mir.Facts.{to_z-of_z, to_z_pos}

down_fits : (n : ℕ) → n < 2 ^ 63 → SFits w64 (neg_ℤ (pos n))
down_fits zero h = record { sfits = omega arith }
down_fits (suc n) h = record { sfits = omega (arith, h) }

down : (n : ℕ) → pos 0 -ℤ pos n ≡ neg_ℤ (pos n)
down n = +ℤ_idl (neg_ℤ (pos n))

module _ {z : ℤ} {n : ℕ} (f : SFits w64 z) (h : n < 2 ^ 63) where
  pub steps_up : to_z w64 (of_z w64 z) ≡ to_z w64 n → z ≡ pos n
  steps_up e = sym (to_z-of_z {w = w64} f) ∙ e ∙ to_z_pos w64 h

  pub steps_down : to_z w64 (of_z w64 z) ≡ to_z w64 (of_z w64 (pos 0 -ℤ to_z w64 n)) → z ≡ neg_ℤ (pos n)
  steps_down e =
      sym (to_z-of_z {w = w64} f) ∙ e
      ∙ ap (λ (y : ℤ). to_z w64 (of_z w64 y)) (ap (λ (y : ℤ). pos 0 -ℤ y) (to_z_pos w64 h) ∙ down n)
      ∙ to_z-of_z {w = w64} (down_fits n h)
