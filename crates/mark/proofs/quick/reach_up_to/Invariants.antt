-- The invariants of `quick::reach_up_to`.
use mathlib.Core.Path.{◌≡◌}
use Prim.Native.Nat.{◌≤◌}
use lib.ListN.{length, drop}
use Rattle.laws.specs.Mark.Sizes.{reach_up_to}
use Rattle.mark.proofs.quick.reach_up_to.Given as goal

abbrev pub invariant-loop-i : goal.invariant-loop-i
invariant-loop-i l = (l.i ≤ length l.operand.extents.now) × (l.sum ≡ reach_up_to l.b (drop l.i l.operand.extents.now) (drop l.i l.operand.strides.now))
