-- The invariants of `sizes::total_len`.
use mathlib.Core.Path.{◌≡◌}
use lib.ListN.{take}
use Rattle.strided.specs.Layout.{total}
use Rattle.layout.specs.Held.{held}
use Rattle.layout.proofs.sizes.total_len.Given as goal

-- the total of the first i extents
abbrev pub invariant-loop-e : goal.invariant-loop-e
invariant-loop-e l = l.t ≡ held (total (take l.e-index l.extents))
