-- The invariants of `kept_axes_into`.
use Rattle.fuse.proofs.Keeping.{Found}
use Rattle.fuse.proofs.kept_axes_into.Given as goal

abbrev pub invariant-loop-i : goal.invariant-loop-i
invariant-loop-i g l = Found l.fused (g.O.Order.names l.order) l.i l.extents l.axes l.count
