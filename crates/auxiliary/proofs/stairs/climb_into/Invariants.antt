-- The invariants of `stairs::climb_into`.
use mathlib.Core.Path.{◌≡◌}
use mathlib.Core.List.{map}
use Prim.Native.Nat.{◌≤◌}
use lib.ListN.{length}
use Rattle.strided.specs.Base.{padded, run}
use Rattle.auxiliary.specs.Stairs.{stair_of}
use Rattle.auxiliary.proofs.stairs.climb_into.Given as goal

abbrev pub invariant-loop-i : goal.invariant-loop-i
invariant-loop-i l = (l.i ≤ length l.row.strides.now) × (l.order ≡ padded 64 0 (map (stair_of l.falling (length l.row.strides.now)) (run 0 l.i)))
