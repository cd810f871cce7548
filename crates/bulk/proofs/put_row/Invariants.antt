-- The invariants of `put_row`.
use Rattle.bulk.specs.Blocks.{row_at}
use mathlib.Core.Path.{◌≡◌}
use Prim.Native.Nat.{◌≤◌}
use lib.ListN.{length}
use lib.Seq.{paste}
use Rattle.bulk.proofs.put_row.Given as goal

abbrev pub invariant-loop-k : goal.invariant-loop-k
invariant-loop-k l =
    let m = length l.initial.row in
    (l.k ≤ m) × (length l.row ≡ m) × (l.row ≡ paste l.initial.row 0 (row_at m l.d l.o l.j) l.k)
