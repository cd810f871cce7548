-- The invariants of `fuse_dims`.
use Prim.Native.Nat.{◌-◌}
use lib.ListN.{length, take}
use Rattle.laws.specs.Fuse.Places.{column_by}
use Rattle.fuse.proofs.Fusing.{Done}
use Rattle.fuse.proofs.fuse_dims.Given as goal

abbrev pub invariant-loop-i : goal.invariant-loop-i
invariant-loop-i g l = Done (column_by l.axes.rows.strides.now l.axes.rows.pitch l.axes.rows.operands (g.O.Order.names l.axes.order)) (take (length (g.O.Order.names l.axes.order)) l.initial.extents) (l.i - 1) l.extents
