-- The invariants of `Column::least_size`.
use mathlib.Core.Path.{◌≡◌}
use Rattle.strided.specs.Base.{least}
use Rattle.fuse.specs.Sizes.{size_at}
use Rattle.fuse.proofs.Column.least_size.Given as goal

abbrev pub invariant-loop-k : goal.invariant-loop-k
invariant-loop-k l = l.size ≡ least (size_at l.self.rows.strides.now l.self.rows.pitch l.self.axis) 0 l.k
