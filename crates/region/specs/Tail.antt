-- "Cutting looks at a tail of axes, at first all.": how many axes a tail has. Assumes nothing.
use Rattle.std.specs.Prelude.{ℕ, ◌-◌}
use Rattle.region.specs.declared.tail.Tail.{Tail}

abbrev pub axes : Tail → ℕ
axes t = t.rank - t.offset
