-- Where a pick is. Assumes nothing.
use native.Mathlib.Omega.{arith}
use mathlib.Core.Path.{◌≡◌, sym, ◌∙◌}
use mathlib.Core.List.{List}
use Rattle.std.specs.Prelude.{Option, Some}
use Prim.Native.Nat.{ℕ, ◌+◌, ◌<◌}
use Rattle.strided.specs.Cut.{greatest_score}
use Rattle.laws.specs.Cut.Picks.{pick_is}

-- a pick that is there
pub there : {p : Option ℕ} {g : Option ℕ} {i : ℕ} → p ≡ g → p ≡ Some i → g ≡ Some i
there h e = sym h ∙ e

-- it is a place of the tail
pub place : (blocks costs : List ℕ) (o n : ℕ) {i : ℕ} → greatest_score blocks costs o n ≡ Some i → i < o + n
place blocks costs o n e = let r = pick_is _ _ _ _ _ e in omega (arith, r.from, r.below)
