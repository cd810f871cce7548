-- The invariants of `packed::gapless_row`.
use Rattle.export.proofs.Gaps.{Rest}
use Rattle.export.proofs.packed.gapless_row.Given as goal

abbrev pub invariant-loop-extent : goal.invariant-loop-extent
invariant-loop-extent l = Rest l.extents l.strides l.n l.extent-iterator.a.rest.now l.extent-iterator.b.rest.now
