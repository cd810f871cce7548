-- How many axes a plan has. Assumes nothing.
use mathlib.Core.Path.{◌≡◌}
use mathlib.Core.List.{List}
use Prim.Native.Nat.{ℕ, ◌≤◌}
use native.Mathlib.Omega.{arith}
use lib.IntN.{ℤ}
use lib.ListN.{length}
use Rattle.strided.specs.Fuse.{plan_axes}
use Rattle.strided.specs.declared.Purpose.{Purpose}
use Rattle.laws.specs.Fuse.Maps.{plan_short}
use Rattle.layout.specs.Fitting.{Fitting}

module _ (es : List ℕ) (m : ℕ) (ss : List ℤ) (u : Purpose) (fits : Fitting ss (length es) m) {rank : ℕ} (number : rank ≡ length (plan_axes es m ss u)) where
  pub few-made : rank ≤ 64
  few-made = omega (arith, number, plan_short es m ss u, fits.rank-few)
