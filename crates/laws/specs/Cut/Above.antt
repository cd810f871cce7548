-- Cutting leaves every block at least 1: halving rounds up, 1 is taken off blocks above 1 only, and a tail may become all 1.
-- Assumes nothing.
use Rattle.std.specs.Prelude.{Bool, true, false, cond, List, ℕ, zero, suc, ◌+◌, ◌≤◌, ltb, leb, get_or}
use Rattle.std.proofs.Common.{le_refl}
use Rattle.strided.specs.Region.{region}
use Rattle.strided.specs.Cut.{least_byte, keeps_first, ones, cutting}
use Rattle.strided.specs.declared.Machine.{Machine}
use Rattle.laws.specs.Cut.Steps.{set_above, shrunk_above}

ones_above : (o n : ℕ) (b : List ℕ) (j : ℕ) → 1 ≤ get_or b j 0 → 1 ≤ get_or (ones o n b) j 0
unfolding ones
ones_above o zero b j h = h
ones_above o (suc n) b j h = set_above (ones o n b) (o + n) 1 j (le_refl 1) (ones_above o n b j h)

either_above : (t : Bool) (x y : List ℕ) (j : ℕ) → 1 ≤ get_or x j 0 → 1 ≤ get_or y j 0 → 1 ≤ get_or (cond t x y) j 0
either_above true x y j p q = p
either_above false x y j p q = q

pub cutting_above : (mc : Machine) (bytes : List ℕ) (operands : ℕ) (costs : List ℕ) (table : List (List ℕ)) (o n : ℕ) (b : List ℕ) (j : ℕ)
    → 1 ≤ get_or b j 0 → 1 ≤ get_or (cutting mc bytes operands costs table o n b) j 0
unfolding cutting
cutting_above mc bytes operands costs table o zero b j h = h
cutting_above mc bytes operands costs table o (suc n) b j h =
    either_above (leb (region mc bytes operands b o (suc n)) mc.cache) _ _ j h
    (either_above (keeps_first table operands o (suc n)) _ _ j (cutting_above mc bytes operands costs table (o + 1) n b j h)
    (either_above (ltb mc.cache (least_byte bytes operands o (suc n))) _ _ j (ones_above o (suc n) b j h)
    (shrunk_above mc bytes operands costs o (suc n) b j h)))
