-- The invariants of `check::ranks_right`.
use mathlib.Core.Path.{◌≡◌}
use Prim.Native.Nat.{◌*◌, ◌≤◌}
use lib.ListN.{length, take}
use Rattle.session.specs.Session.{same_nats}
use Rattle.session.specs.Made.{rows_of}
use Rattle.session.proofs.check.ranks_right.Given as goal

abbrev pub invariant-loop-k : goal.invariant-loop-k
invariant-loop-k l = (l.operands ≤ 8) × (length l.ranks ≡ 512) × (l.k ≤ l.operands) × (l.alike ≡ same_nats (take (l.k * 64) l.ranks) (rows_of l.table l.k))
