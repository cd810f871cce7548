-- A table with the ranks of all axes of a layout, as a session keeps them; weights ask for those of the axes that move alone.
-- Assumes nothing.
use Rattle.std.specs.Prelude.{◌≡◌, refl, List, [], ◌∷◌, map, ℕ, zero, suc, ◌≤◌, ◌<◌, ℤ, pos, nat_abs, length, get_or, replicate}
use Rattle.std.proofs.Common.{ap, ◌∙◌, arith}
use Rattle.strided.specs.Base.{padded, run}
use Rattle.strided.specs.Layout.{stride_row}
use Rattle.strided.specs.Ranks.{rank_of, ranks, rank_table}
use Rattle.laws.specs.Base.Arrays.{length-padded}
use Rattle.laws.specs.Base.Filling.{fill_at, length-rows}
use Rattle.laws.specs.Base.Rows.{length_strides}
use Rattle.laws.specs.Order.Ranks.{ranks_places, table_rows}
use Rattle.layout.specs.Fitting.{Fitting}
use Rattle.auxiliary.specs.Moving.{MovingTo}

-- a layout within the limits, and a table with the ranks of its axes
pub record Tabled (es : List ℕ) (ss : List ℤ) (table : List (List ℕ)) (operands : ℕ) : Type 0 where
  pub fits : Fitting ss (length es) operands
  pub ranks : table ≡ padded 8 (replicate 64 0) (map (padded 64 0) (rank_table ss (length es) operands))

-- behind the list the array is blank
behind : (n : ℕ) (z : List ℕ) (xs : List (List ℕ)) (j : ℕ) → length xs ≤ j → j < n → get_or (padded n z xs) j [] ≡ z
behind zero z xs j a h = absurd (omega arith)
behind (suc n) z [] zero a h = refl
behind (suc n) z [] (suc j) a h = behind n z [] j (omega arith) (omega arith)
behind (suc n) z (x ∷ xs) zero a h = absurd (omega arith)
behind (suc n) z (x ∷ xs) (suc j) a h = behind n z xs j (omega arith) (omega arith)

-- the rank of an axis in its operand's row
rank-at : (row : List ℤ) → length row ≤ 64 → (i : ℕ) → i < length row → get_or (padded 64 0 (ranks row)) i 0 ≡ rank_of row (nat_abs (get_or row i (pos 0)))
rank-at row few i h =
    ap (λ (r : List ℕ). get_or (padded 64 0 r) i 0) (ranks_places row) ∙ fill_at 64 0 0 (λ j. rank_of row (nat_abs (get_or row j (pos 0)))) (length row) i h few

pub tabled_ranked : (es : List ℕ) (ss : List ℤ) (table : List (List ℕ)) (operands : ℕ) → Tabled es ss table operands → Fitting ss (length es) operands × MovingTo es ss operands table
tabled_ranked es ss table operands t =
    let f : Fitting ss (length es) operands = t.fits in (
      t.fits,
      record {
        long = ap length t.ranks ∙ length-padded zeros 8 (map (padded 64 0) (rank_table ss (length es) operands));
        done = λ j h i g m.
            ap (λ (r : List (List ℕ)). get_or (get_or r j []) i 0) rows_are
            ∙ ap (λ (r : List ℕ). get_or r i 0) (fill_at 8 zeros [] row operands j h f.operands_few)
            ∙ rank-at (stride_row ss (length es) j) (omega (arith, length_strides ss (length es) operands j f.strides_all h, f.rank-few)) i g;
        rest = λ j h few.
            ap (λ (r : List (List ℕ)). get_or r j []) rows_are
            ∙ behind 8 zeros (map row (run 0 operands)) j (omega (arith, length-rows row 0 operands)) few;
      },
    )
  where
    zeros : List ℕ
    zeros = replicate 64 0

    row : ℕ → List ℕ
    row k = padded 64 0 (ranks (stride_row ss (length es) k))

    rows_are : table ≡ padded 8 zeros (map row (run 0 operands))
    rows_are = t.ranks ∙ ap (padded 8 zeros) (table_rows ss (length es) operands)
