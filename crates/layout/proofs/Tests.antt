-- Laws of the rows' tests: on capped numbers. Assumes nothing.
use mathlib.Core.Path.{◌≡◌, refl, sym, ◌∙◌}
use mathlib.Core.Bool.{Bool, true, false}
use mathlib.Core.List.{List}
use Prim.Native.Nat.{ℕ, ◌^◌, min}
use native.Mathlib.Omega.{arith}
use lib.Dec.{ltb}
use lib.IntN.{ℤ}
use borrow.Author.Tests.{lt-ltb, le-ltb, ltb-true, ltb-false}
use Rattle.strided.specs.Layout.{reach, max_i}
use Rattle.layout.specs.Rows.{row_at, far_at}

-- a number and what 2^63 leaves of it are on the same side of 2^63 - 1
far-same : (n r : ℕ) → r ≡ min n (2 ^ 63) → ltb max_i r ≡ ltb max_i n
far-same n r h = go (ltb max_i n) refl
  where
    go : (b : Bool) → ltb max_i n ≡ b → ltb max_i r ≡ b
    go true q = lt-ltb max_i r (omega (arith, ltb-true max_i n q))
    go false q = le-ltb max_i r (omega (arith, ltb-false max_i n q))

-- ---- operand k, whose reach the code has as r

module _ (es : List ℕ) (ss : List ℤ) (pitch k r : ℕ) (is : r ≡ min (reach es (row_at es ss pitch k)) (2 ^ 63)) where
  pub far_is : {b : Bool} → ltb max_i r ≡ b → far_at es (row_at es ss pitch) k ≡ b
  far_is h = sym (far-same (reach es (row_at es ss pitch k)) r is) ∙ h
