-- What the plan's arrays have where cutting is asked for: the layout was not refused by rows 1 to 6. Assumes nothing.
use Rattle.std.specs.Prelude.{◌≡◌, false, List, ℕ, ◌*◌, ◌^◌, ◌≤◌, ◌<◌, ℤ, length, get_or, take, drop}
use Rattle.strided.specs.Layout.{chosen, reach, max_i}
use Rattle.strided.specs.Refusals.{missing}
use Rattle.strided.specs.declared.Purpose.{Purpose}

pub record Plannable (sizes es : List ℕ) (strides : List ℤ) (rank : ℕ) (u : Purpose) : Type 0 where
  pub axes : rank ≤ 64
  pub one : 1 ≤ length sizes
  pub few : length sizes ≤ 8
  pub places : length es ≡ 64
  pub table : length strides ≡ 512
  pub small : (i : ℕ) → i < rank → get_or es i 0 < 2 ^ 64
  -- rows 4 and 6 on the plan's axes
  pub there : missing (length sizes) (chosen u) ≡ false
  pub near : (k : ℕ) → k < length sizes → reach (take rank es) (take rank (drop (k * 64) strides)) ≤ max_i
