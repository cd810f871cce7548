-- The invariants of `slab_width`.
use mathlib.Core.Path.{◌≡◌}
use Prim.Native.Nat.{◌+◌}
use Rattle.strided.specs.Base.{sum}
use Rattle.laws.specs.Cut.Rising.{way_of}
use Rattle.laws.specs.Cut.Tables.{stride_size}
use Rattle.decline.proofs.slab_width.Given as goal

abbrev pub invariant-loop-i : goal.invariant-loop-i
invariant-loop-i l = (l.w ≡ 1 + sum (way_of (stride_size l.operand.axes.strides.now l.operand.k) l.operand.axes.extents.now) 0 l.i)
