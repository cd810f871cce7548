-- The invariants of `put_row`.
use mathlib.Core.Path.{◌≡◌}
use mathlib.Core.List.{◌++◌}
use Prim.Native.Nat.{◌≤◌}
use lib.ListN.{length, take}
use lib.IntN.{pos}
use Rattle.strided.specs.Base.{padded}
use Rattle.laws.specs.Fuse.Arrays.{pick_row, pick_rows}
use Rattle.arrange.proofs.put_row.Given as goal

abbrev pub invariant-loop-j : goal.invariant-loop-j
invariant-loop-j g l = (l.j ≤ length (g.O.Order.names l.axes.order)) × (l.table ≡ padded 512 (pos 0) (pick_rows l.axes.rows.strides.now l.axes.rows.pitch (g.O.Order.names l.axes.order) l.k ++ take l.j (pick_row l.axes.rows.strides.now l.axes.rows.pitch (g.O.Order.names l.axes.order) l.k)))
