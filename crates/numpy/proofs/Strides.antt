-- One stride in bytes and in elements, by the tests that the code makes on its sign and size.
-- Assumes nothing.
use mathlib.Core.Path.{◌≡◌, refl, sym, ap}
use mathlib.Core.Bool.{Bool, true, false, not}
use Prim.Native.Nat.{ℕ, ◌-◌, ◌^◌, ◌≤◌, ◌<◌}
use lib.Dec.{ltb}
use lib.IntN.{ℤ, negsuc}
use borrow.Author.Tests.{ltb-true, ltb-false, lt-ltb, le-ltb}
use Rattle.numpy.specs.Numpy.{element_stride, byte_stride}

-- a test that is another one turned round
turned : (a b c d : ℕ) → (a < b → d ≤ c) → (b ≤ a → c < d) → ltb a b ≡ not (ltb c d)
turned a b c d f g = go (ltb a b) refl
  where
    go : (t : Bool) → ltb a b ≡ t → t ≡ not (ltb c d)
    go true e = sym (ap not (le-ltb c d (f (ltb-true a b e))))
    go false e = sym (ap not (lt-ltb c d (g (ltb-false a b e))))

-- ---- to elements

-- what the division of its size says of a negative byte stride
pub record Below (size : ℕ) (z : ℤ) (c : ℕ) : Type 0 where
  pub some : 0 < c
  pub most : c ≤ 2 ^ 63
  pub is : negsuc (c - 1) ≡ element_stride size z

-- ---- to bytes

-- what a stride that does not leave 64-bit signed has as its bytes
pub record BytesBelow (size : ℕ) (z : ℤ) (c : ℕ) : Type 0 where
  pub some : 0 < c
  pub most : c ≤ 2 ^ 63
  pub is : negsuc (c - 1) ≡ byte_stride size z
