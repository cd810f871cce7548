-- The invariants of `strides::strides_into`: the strides before the place that is written stand in the table, and zeros behind.
use mathlib.Core.Path.{◌≡◌}
use Prim.Native.Nat.{◌+◌, ◌*◌}
use lib.IntN.{pos}
use lib.ListN.{length, take}
use Rattle.strided.specs.Base.{padded}
use Rattle.window.specs.Selected.{new_strides}
use Rattle.window.proofs.strides.strides_into.Given as goal

abbrev pub invariant-loop-i : goal.invariant-loop-i
invariant-loop-i l = l.table ≡ padded 512 (pos 0) (take (l.k * length l.selection.layout.extents.now + l.i) (new_strides l.selection))

abbrev pub invariant-loop-k : goal.invariant-loop-k
invariant-loop-k l = l.table ≡ padded 512 (pos 0) (take (l.k * length l.selection.layout.extents.now) (new_strides l.selection))
