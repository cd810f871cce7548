-- The ranks of the plan's axes, operand by operand, as a loop fills a table with them, and what cutting reads from the table. Assumes nothing.
use Rattle.std.specs.Prelude.{◌≡◌, refl, cond, List, [], ◌∷◌, map, ℕ, suc, ◌+◌, ◌*◌, ◌≤◌, eqb, ℤ, length, get_or, take, drop, replicate}
use Rattle.std.proofs.Common.{sym, ap, ◌∙◌, zero-add, arith, drop-drop}
use Rattle.strided.specs.Base.{padded, run}
use Rattle.strided.specs.Ranks.{ranks}
use Rattle.strided.specs.Cut.{plan_ranks}
use Rattle.laws.specs.Base.Arrays.{get_d_padded}
use Rattle.laws.specs.Base.Filling.{rows-later, rows-map, fill_at}
use Rattle.laws.specs.Base.Lists.{get_d_run}
use Rattle.laws.specs.Cut.Same.{SameRanks}

-- operand k's ranks; the plan's table has its strides from place k * 64 on
abbrev pub rank_row : List ℕ → List ℤ → ℕ → ℕ → List ℕ
rank_row sizes strides rank k = cond (eqb (get_or sizes k 0) 0) (replicate rank 1) (ranks (take rank (drop (k * 64) strides)))

pub plan_ranks_lem : (sizes : List ℕ) (strides : List ℤ) (rank : ℕ) → plan_ranks sizes strides rank ≡ map (rank_row sizes strides rank) (run 0 (length sizes))
plan_ranks_lem [] strides rank = refl
plan_ranks_lem (z ∷ sizes) strides rank =
    ap (λ r. rank_row (z ∷ sizes) strides rank 0 ∷ r)
    (plan_ranks_lem sizes (drop 64 strides) rank
    ∙ (λ t. map (λ k. cond (eqb (get_or sizes k 0) 0) (replicate rank 1) (ranks (take rank (further k t)))) (run 0 (length sizes)))
    ∙ sym (rows-later (rank_row (z ∷ sizes) strides rank) (length sizes) 0))
  where
    further : (k : ℕ) → drop (k * 64) (drop 64 strides) ≡ drop (suc k * 64) strides
    further k = let e : 64 + k * 64 ≡ suc k * 64 = omega arith in drop-drop (k * 64) 64 strides ∙ ap (λ (n : ℕ). drop n strides) e

-- in arrays, with z for a row that is not there
module _ (sizes : List ℕ) (strides : List ℤ) (rank : ℕ) (z : List ℕ) where
  pub ranks-rows : padded 8 z (map (padded 64 0) (plan_ranks sizes strides rank)) ≡ padded 8 z (map (λ k. padded 64 0 (rank_row sizes strides rank k)) (run 0 (length sizes)))
  ranks-rows =
      ap (λ r. padded 8 z (map (padded 64 0) r)) (plan_ranks_lem sizes strides rank)
      ∙ ap (padded 8 z) (rows-map (padded 64 0) (rank_row sizes strides rank) 0 (length sizes))

  pub ranks-same : length sizes ≤ 8 → rank ≤ 64 → (table : List (List ℕ)) → table ≡ padded 8 z (map (padded 64 0) (plan_ranks sizes strides rank))
      → SameRanks (length sizes) rank table (plan_ranks sizes strides rank)
  ranks-same few axes table is k i h g =
      let row : ℕ → List ℕ = rank_row sizes strides rank in
      ap (λ t. get_or (get_or t k []) i 0) (is ∙ ranks-rows)
      ∙ ap (λ r. get_or r i 0) (fill_at 8 z [] (λ k. padded 64 0 (row k)) (length sizes) k h few)
      ∙ get_d_padded 0 64 (row k) i (omega arith)
      ∙ sym (ap (λ t. get_or (get_or t k []) i 0) (plan_ranks_lem sizes strides rank)
      ∙ ap (λ r. get_or r i 0) (get_d_run row [] (length sizes) 0 k h ∙ ap row (zero-add k)))
