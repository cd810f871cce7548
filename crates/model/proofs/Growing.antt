-- Strictly growing strides, by the tests in the order of the code: the first stride, each against the next, one operand of all.
-- Assumes nothing.
use mathlib.Core.Path.{◌≡◌, sym, ap}
use mathlib.Core.Bool.{Bool, false}
use mathlib.Core.List.{List}
use Prim.Native.Nat.{ℕ, ◌-◌, ◌*◌, ◌≤◌, ◌<◌}
use native.Mathlib.Nat.{add-zero}
use native.Mathlib.Omega.{arith}
use lib.IntN.{ℤ, pos, nat_abs}
use lib.ListN.{get_or}
use borrow.Author.Tests.{lt-ltb, le-ltb}
use Rattle.strided.specs.Base.{every}
use Rattle.strided.specs.Plan.{grows}
use Rattle.laws.specs.Cut.Tables.{stride_size}
use Rattle.model.specs.Exits.{rises, increasing}

first_stride : (strides : List ℤ) (k : ℕ) → nat_abs (get_or strides (k * 64) (pos 0)) ≡ stride_size strides k 0
first_stride strides k = ap (λ (j : ℕ). nat_abs (get_or strides j (pos 0))) (sym (add-zero (k * 64)))

module _ (strides : List ℤ) (rank k : ℕ) where
  pub increasing-zero : stride_size strides k 0 ≤ 0 → increasing strides rank k ≡ false
  unfolding increasing
  increasing-zero h = rw (le-ltb 0 (stride_size strides k 0) h)

  pub increasing-rest : (r : Bool) → 0 < stride_size strides k 0 → every (rises strides k) 0 (rank - 1) ≡ r → increasing strides rank k ≡ r
  unfolding increasing
  increasing-rest r h e = rw (lt-ltb 0 (stride_size strides k 0) h) e

  -- one operand of those that must all grow
  pub grows_empty : (sizes : List ℕ) → get_or sizes k 0 ≡ 0 → grows sizes strides rank k ≡ false
  unfolding grows
  grows_empty sizes e = rw (le-ltb 0 (get_or sizes k 0) (omega arith))

  pub grows_is : (sizes : List ℕ) → 0 < get_or sizes k 0 → grows sizes strides rank k ≡ increasing strides rank k
  unfolding grows increasing
  grows_is sizes h =
      rw (lt-ltb 0 (get_or sizes k 0) h, first_stride strides k)
