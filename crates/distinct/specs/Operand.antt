-- One operand of a layout, whose offsets are listed.
-- Assumes nothing.
use Rattle.std.specs.Prelude.{◌≡◌, false, List, ℕ, ◌≤◌, ℤ, length}
use Rattle.strided.specs.Layout.{has_zero, reach, max_i}

-- no row refuses it, and there is an index
pub record NearOffsets (es : List ℕ) (ts : List ℤ) : Type 0 where
  pub paired : length ts ≡ length es
  pub some : has_zero es ≡ false
  pub near : reach es ts ≤ max_i
