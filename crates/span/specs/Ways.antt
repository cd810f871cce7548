-- What the loop over the axes asks. Assumes nothing.
use Rattle.std.specs.Prelude.{◌≡◌, List, ℕ, ◌≤◌, ℤ, length}
use Rattle.strided.specs.Layout.{NoZero, reach, max_i}

-- one stride for each extent, none of which is 0, and a reach that row 6 lets pass
pub record Full (es : List ℕ) (ts : List ℤ) : Type 0 where
  pub long : length ts ≡ length es
  pub whole : NoZero es
  pub near : reach es ts ≤ max_i
