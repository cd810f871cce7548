-- The invariants of `costs_into`.
use mathlib.Core.Path.{◌≡◌}
use Prim.Native.Nat.{◌≤◌}
use lib.ListN.{take}
use Rattle.strided.specs.Base.{padded}
use Rattle.strided.specs.Costs.{costs}
use Rattle.fuse.proofs.costs_into.Given as goal

abbrev pub invariant-loop-i : goal.invariant-loop-i
invariant-loop-i l = (l.i ≤ l.rank) × (l.found ≡ padded 64 0 (take l.i (costs l.rows.strides.now l.rows.operands l.rank)))
