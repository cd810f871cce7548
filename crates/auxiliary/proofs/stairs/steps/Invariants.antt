-- The invariants of `stairs::steps`.
use mathlib.Core.Path.{◌≡◌}
use Prim.Native.Nat.{◌-◌, ◌≤◌, max}
use lib.ListN.{length}
use Rattle.auxiliary.specs.Stairs.{steps_to}
use Rattle.auxiliary.proofs.stairs.steps.Given as goal

abbrev pub invariant-loop-i : goal.invariant-loop-i
invariant-loop-i l = (l.i ≤ max 1 (length l.row.strides.now)) × (l.count ≡ steps_to l.falling l.row.strides.now (l.i - 1))
