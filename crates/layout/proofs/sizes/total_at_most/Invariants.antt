-- The invariants of `sizes::total_at_most`.
use mathlib.Core.Path.{◌≡◌}
use lib.ListN.{take}
use Rattle.strided.specs.Layout.{total}
use Rattle.layout.proofs.sizes.total_at_most.Given as goal

abbrev pub invariant-loop-i : goal.invariant-loop-i
invariant-loop-i l = l.t ≡ total (take l.i l.extents)
