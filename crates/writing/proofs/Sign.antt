-- A signed number as its size, with `-` in front of one below 0. A signed number that is passed on or tested is held as its bits.
-- Assumes nothing.
use mathlib.Core.Path.{◌≡◌, refl, sym, ap, ◌∙◌}
use mathlib.Core.Bool.{true}
use mathlib.Core.List.{◌∷◌}
use Prim.Native.Nat.{ℕ}
use native.Mathlib.Nat.{not-suc-le-zero}
use lib.IntN.{ℤ, pos, negsuc, nat_abs}
use lib.Signed.{lt_z}
use borrow.Author.Tests.{ltb-true}
use mir.Syntax.{w64}
use mir.Val.{SFits, to_z, of_z}
use mir.Facts.{to_z-of_z}
use Rattle.strided.specs.Digits.{digits_of, signed_of}

signed_below : (z : ℤ) → lt_z z (pos 0) ≡ true → signed_of z ≡ 45 ∷ digits_of (nat_abs z)
signed_below (pos n) e = absurd (not-suc-le-zero (ltb-true n 0 e))
signed_below (negsuc k) e = refl

-- the code's test, and the size that it was handed
module _ (z : ℤ) (f : SFits w64 z) {size : ℕ} (s : size ≡ nat_abs (to_z w64 (of_z w64 z))) where
  same : size ≡ nat_abs z
  same = s ∙ ap nat_abs (to_z-of_z f)

  pub signed-neg : lt_z (to_z w64 (of_z w64 z)) (pos 0) ≡ true → signed_of z ≡ 45 ∷ digits_of size
  signed-neg e = signed_below z (rw (to_z-of_z f) at e) ∙ ap (λ (n : ℕ). 45 ∷ digits_of n) (sym same)
