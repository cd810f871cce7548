-- The invariants of `down_of`.
use Rattle.span.proofs.Sums.{Left}
use Rattle.span.proofs.down_of.Given as goal

abbrev pub invariant-loop-extent : goal.invariant-loop-extent
invariant-loop-extent l = Left l.extents l.strides l.sum l.extent-iterator.a.rest.now l.extent-iterator.b.rest.now
