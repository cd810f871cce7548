-- Whether an offset has room below and above.
-- Assumes nothing.
use mathlib.Core.Path.{◌≡◌, refl, sym, ap, ◌∙◌}
use mathlib.Core.Bool.{Bool, true, false, cond, false≢true}
use Prim.Native.Nat.{ℕ, zero, suc, ◌+◌, ◌-◌, ◌<◌, ◌^◌}
use native.Mathlib.Omega.{arith}
use lib.IntN.{ℤ, pos, negsuc, sub_ℕ, ◌+ℤ◌, ◌-ℤ◌, +ℤ_idr}
use lib.Signed.{mag}
use lib.Dec.{ltb}
use borrow.Author.Tests.{ltb-true, lt-ltb}
use mir.Syntax.{w64}
use mir.Val.{SFits}
use Rattle.std.specs.Prelude.{Option, Some, None, is_some}
use Rattle.std.specs.Option.{SomeIff}
use Rattle.strided.specs.Layout.{in_i64}

-- two tests that hold together
both_ways : (x y : Bool) → (x ≡ true → y ≡ true) → (y ≡ true → x ≡ true) → x ≡ y
both_ways true y f g = sym (f refl)
both_ways false true f g = g refl
both_ways false false f g = refl

same_test : (x : Bool) (z : ℤ) → (x ≡ true → SFits w64 z) × (SFits w64 z → x ≡ true) → x ≡ in_i64 z
same_test x z p = both_ways x (in_i64 z) (λ e. lt-ltb (mag z) (2 ^ 63) (p.0 e).sfits) (λ e. p.1 (record { sfits = ltb-true (mag z) (2 ^ 63) e }))

-- what a checked sum or difference answers
pub fits_some : (z : ℤ) (r : Option ℤ) (v : ℤ) {t : Bool} → SomeIff r (SFits w64 z) v → t ≡ is_some r → t ≡ in_i64 z
fits_some z None v h e = e ∙ same_test false z (λ q. absurd (false≢true q), λ p. absurd (h p))
fits_some z (Some x) v h e = e ∙ same_test true z (λ _. h.0, λ _. refl)

-- ---- room below an offset

sub_mag : (a b : ℕ) → a < 2 ^ 63 → b < 2 ^ 63 → mag (sub_ℕ a b) < 2 ^ 63
sub_mag a b ha hb = go (ltb a b)
  where
    go : (t : Bool) → mag (cond t (negsuc (b - suc a)) (pos (a - b))) < 2 ^ 63
    go true = omega arith
    go false = omega arith

-- an offset from 0 up has room below, whatever lies there
pub pos_room : (a b : ℕ) → a < 2 ^ 63 → b < 2 ^ 63 → mag (pos a -ℤ pos b) < 2 ^ 63
pos_room a zero ha hb = omega arith
pos_room a (suc b) ha hb = sub_mag a (suc b) ha hb

-- one below 0 has it where the two sizes fit together
pub neg_mag : (a b : ℕ) → mag (negsuc a -ℤ pos b) ≡ a + b
neg_mag a zero = ap mag (sym (negsuc_less a)) ∙ (let g : a ≡ a + 0 = omega arith in g)
  where
    negsuc_less : (a : ℕ) → negsuc a ≡ negsuc a +ℤ pos 0
    negsuc_less a = sym (+ℤ_idr (negsuc a))
neg_mag a (suc b) = omega arith

-- ---- room above an offset

-- one below 0 has it, whatever lies there
pub neg_room : (a b : ℕ) → a < 2 ^ 63 → b < 2 ^ 63 → mag (negsuc a +ℤ pos b) < 2 ^ 63
neg_room a b ha hb = go (ltb b (suc a))
  where
    go : (t : Bool) → mag (cond t (negsuc (suc a - suc b)) (pos (b - suc a))) < 2 ^ 63
    go true = omega arith
    go false = omega arith
