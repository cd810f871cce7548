-- `<` and `<=` of floats as tests answer them: the toolchain's order of floats, said of answers. Assumes nothing.
use Rattle.std.specs.Prelude.{◌≡◌, true, false, Float}
use Rattle.std.proofs.Common.{subst}
use Rattle.std.specs.Float.{◌≤ᶠ◌}
use Rattle.std.specs.Float.Ieee.{lt, le, is_nan}
use Rattle.std.proofs.lemmas.Float.{lt_trans, lt_irrefl, lt_of_le_of_lt, le_of_not-lt, le_of_lt, le_left, le_right, T_from_true, T_from_false}
use lib.Dec.{T, not_T}
use lib.Ieee.Bits.{is_true, is_false}

pub lt_trans_float : (x y z : Float) → lt x y ≡ true → lt y z ≡ true → lt x z ≡ true
lt_trans_float x y z p q = is_true (lt x z) (lt_trans x y z (T_from_true (lt x y) p) (T_from_true (lt y z) q))

pub lt_irrefl_float : (x : Float) → lt x x ≡ false
lt_irrefl_float x = is_false (lt x x) (not_T (lt x x) (lt_irrefl x))

pub le_not_lt : (x y : Float) → le x y ≡ true → lt y x ≡ false
le_not_lt x y h = is_false (lt y x) (not_T (lt y x) (λ g. lt_irrefl x (lt_of_le_of_lt x y x (T_from_true (le x y) h) g)))

-- what is at least another is a number
pub le_number : (x y : Float) → le x y ≡ true → is_nan y ≡ false
le_number x y h = is_false (is_nan y) (le_right x y (T_from_true (le x y) h))

-- by way of a number, "not below" carries on as well
pub not_lt_trans : (x y z : Float) → is_nan y ≡ false → lt x y ≡ false → lt y z ≡ false → lt x z ≡ false
not_lt_trans x y z n p q =
    is_false (lt x z)
    (not_T (lt x z) (λ h.
    let back : y ≤ᶠ x = le_of_not-lt x y (le_left x z (le_of_lt x z h)) (T_from_false (is_nan y) n) (T_from_false (lt x y) p) in
    subst T q (lt_of_le_of_lt y x z back h)))
