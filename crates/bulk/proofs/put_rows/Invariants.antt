-- The invariants of `put_rows`.
use Rattle.bulk.specs.Blocks.{rows_for}
use mathlib.Core.Path.{◌≡◌}
use Prim.Native.Nat.{◌*◌, ◌≤◌}
use lib.ListN.{length}
use lib.Seq.{paste}
use Rattle.bulk.proofs.put_rows.Given as goal

abbrev pub invariant-loop-j : goal.invariant-loop-j
invariant-loop-j l =
    (l.j ≤ l.blocks) × (length l.offsets ≡ length l.initial.offsets) × (l.offsets ≡ paste l.initial.offsets (l.at * l.plan.operands) (rows_for l.j l.plan.operands l.d l.o) (l.j * l.plan.operands))
