-- What keeps every sum of spans in 64 bits: row 6 on the plan's axes, since a slab spans at most 1 + reach elements. Assumes nothing.
use Rattle.std.specs.Prelude.{ℕ, ◌*◌, ◌<◌, ◌≤◌, length, take, drop}
use Rattle.strided.specs.Layout.{reach, max_i}
use Rattle.region.specs.declared.tail.Axes.{Axes}

-- operand k's stride on axis i stands at k * 64 + i
abbrev pub WithinReach : Axes → Type 0
WithinReach a = (k : ℕ) → k < length a.sizes.now → reach (take a.rank a.extents.now) (take a.rank (drop (k * 64) a.strides.now)) ≤ max_i
