-- The invariants of `ranks::plan_ranks_into`.
use mathlib.Core.Path.{◌≡◌}
use mathlib.Core.List.{List, map}
use Prim.Native.Nat.{ℕ}
use lib.IntN.{ℤ}
use lib.ListN.{replicate}
use Rattle.strided.specs.Base.{padded, run}
use Rattle.laws.specs.Plan.Ranks.{rank_row}
use Rattle.model.proofs.ranks.plan_ranks_into.Given as goal

-- the row of operand k, as an array
abbrev pub row_of : List ℕ → List ℤ → ℕ → ℕ → List ℕ
row_of sizes strides rank k = padded 64 0 (rank_row sizes strides rank k)

abbrev pub invariant-loop-k : goal.invariant-loop-k
invariant-loop-k l =
    (l.table ≡ padded 8 (replicate 64 0) (map (row_of l.axes.sizes.now l.axes.strides.now l.axes.rank) (run 0 l.k)))
