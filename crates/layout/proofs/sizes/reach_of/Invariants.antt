-- The invariants of `sizes::reach_of`.
use Rattle.std.specs.Iterator.Adapters.{zip_first, zip_second}
use Rattle.std.specs.Slice.Iter.{iter_rest}
use Rattle.strided.specs.Layout.{reach}
use Rattle.layout.proofs.Caps.{Summed}
use Rattle.layout.proofs.sizes.reach_of.Given as goal

abbrev pub invariant-loop-extent : goal.invariant-loop-extent
invariant-loop-extent l = Summed (reach l.extents l.strides) l.sum (iter_rest (zip_first l.extent-iterator)) (iter_rest (zip_second l.extent-iterator))
