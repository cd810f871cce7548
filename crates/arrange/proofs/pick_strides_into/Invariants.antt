-- The invariants of `pick_strides_into`.
use mathlib.Core.Path.{◌≡◌}
use Prim.Native.Nat.{◌≤◌}
use lib.IntN.{pos}
use Rattle.strided.specs.Base.{padded}
use Rattle.laws.specs.Fuse.Arrays.{pick_rows}
use Rattle.arrange.proofs.pick_strides_into.Given as goal

abbrev pub invariant-loop-k : goal.invariant-loop-k
invariant-loop-k g l = (l.k ≤ l.axes.rows.operands) × (l.table ≡ padded 512 (pos 0) (pick_rows l.axes.rows.strides.now l.axes.rows.pitch (g.O.Order.names l.axes.order) l.k))
