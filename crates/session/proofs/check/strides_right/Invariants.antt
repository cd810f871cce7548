-- The invariants of `check::strides_right`.
use mathlib.Core.Path.{◌≡◌}
use Prim.Native.Nat.{◌*◌, ◌≤◌}
use lib.ListN.{length, take}
use Rattle.laws.specs.Fuse.Arrays.{pick_rows}
use Rattle.session.specs.Session.{same_ints}
use Rattle.session.proofs.check.strides_right.Given as goal

abbrev pub invariant-loop-k : goal.invariant-loop-k
invariant-loop-k l =
    (l.rows.operands ≤ 8) × (l.rows.operands * l.rows.pitch ≤ length l.rows.strides.now) × (length l.plan_strides ≡ 512) × (l.k ≤ l.rows.operands)
    × (l.alike ≡ same_ints (pick_rows l.rows.strides.now l.rows.pitch l.axes l.k) (take (l.k * 64) l.plan_strides))
