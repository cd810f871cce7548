-- The table of ranks where an operand joins or leaves: an operand's ranks depend on its own strides alone, so those of the operands that stay
-- are the numbers they were. Assumes nothing.
use Rattle.std.specs.Prelude.{◌≡◌, refl, ℤ, length, take, drop}
use Rattle.std.proofs.Math.Path.{sym, ap, ap₂}
use Rattle.std.proofs.Common.{◌∙◌, length-drop}
use mathlib.Core.List.{List, [], ◌∷◌, ◌++◌, map, map-append}
use Prim.Native.Nat.{ℕ, zero, suc, ◌+◌, ◌-◌, ◌*◌, ◌≤◌, ◌<◌}
use native.Mathlib.Omega.{arith}
use Rattle.std.proofs.Math.ListN.{get_or}
use Rattle.std.proofs.lemmas.List.{take-append-le, drop-append-le}
use Rattle.strided.specs.Base.{padded, over, run}
use Rattle.strided.specs.Layout.{stride_row}
use Rattle.strided.specs.Ranks.{ranks, rank_table}
use Rattle.laws.specs.Base.Filling.{padded_is}
use Rattle.laws.specs.Base.Lists.{run-append, get_d_run}
use Rattle.laws.specs.Base.Rows.{row_fits, length_over, row-over}
use Rattle.session.specs.Session.{old_place, strides_without}
use Rattle.session.specs.Afresh.{row_stays, row_new, row_moves, old-there}

-- two rules that agree on the places make one list
pub rows_agree : {A : Type 0} (f g : ℕ → A) (n s : ℕ) → ((j : ℕ) → s ≤ j → j < s + n → f j ≡ g j) → map f (run s n) ≡ map g (run s n)
rows_agree f g zero s h = refl
rows_agree f g (suc n) s h =
    ap₂ (λ a r. a ∷ r) (h s (omega arith) (omega arith)) (rows_agree f g n (suc s) (λ j a b. h j (omega arith) (omega arith)))

module _ (ss : List ℤ) (rank m : ℕ) (e : length ss ≡ rank * m) where
  -- the row of operand k
  pub table_at : (k : ℕ) → k < m → get_or (rank_table ss rank m) k [] ≡ ranks (stride_row ss rank k)
  unfolding rank_table
  table_at k h = get_d_run (λ k. ranks (stride_row ss rank k)) [] m 0 k h ∙ ap (λ (i : ℕ). ranks (stride_row ss rank i)) (let z : 0 + k ≡ k = omega arith in z)

  -- JOINING adds a row, and leaves the others
  pub table_joined : (ts : List ℤ) → length ts ≡ rank → rank_table (ss ++ ts) rank (m + 1) ≡ rank_table ss rank m ++ (ranks ts ∷ [])
  unfolding rank_table
  table_joined ts l =
      let f : ℕ → List ℕ = λ k. ranks (stride_row (ss ++ ts) rank k) in
      let g : ℕ → List ℕ = λ k. ranks (stride_row ss rank k) in
      let old : map f (run 0 m) ≡ map g (run 0 m) = rows_agree f g m 0 (λ j a b. ap ranks (row_stays ss ts rank m e j (omega arith))) in
      let new : f (0 + m) ≡ ranks ts = let z : 0 + m ≡ m = omega arith in ap f z ∙ ap ranks (row_new ss ts rank m e l) in
      ap (map f) (run-append m 1 0) ∙ map-append f (run 0 m) (run (0 + m) 1) ∙ ap₂ (λ (x : List (List ℕ)) (y : List ℕ). x ++ (y ∷ [])) old new

  -- LEAVING takes one out
  pub table_left : (k : ℕ) → k < m
      → rank_table (strides_without rank m k ss) rank (m - 1) ≡ map (λ j. get_or (rank_table ss rank m) (old_place k j) []) (run 0 (m - 1))
  unfolding rank_table
  table_left k h =
      rows_agree (λ j. ranks (stride_row (strides_without rank m k ss) rank j)) (λ j. get_or (rank_table ss rank m) (old_place k j) []) (m - 1) 0
      (λ j a b. let w : j < m - 1 = omega arith in ap ranks (row_moves ss rank m k e h j w) ∙ sym (table_at (old_place k j) (old-there m k j h w)))

-- rows of 64 places in an array of 512
pub array_row : {A : Type 0} (z : A) (f : ℕ → List A) (m k : ℕ) → ((j : ℕ) → length (f j) ≡ 64) → m ≤ 8 → k < m
    → take 64 (drop (k * 64) (padded 512 z (over (run 0 m) f))) ≡ f k
array_row z f m k even few h =
    let even-in : (j : ℕ) → 0 ≤ j → j < 0 + m → length (f j) ≡ 64 = λ j a b. even j in
    let long : length (over (run 0 m) f) ≡ m * 64 = length_over 64 f m 0 even-in in
    let fits = row_fits k 64 m h in
    let short : length (over (run 0 m) f) ≤ 512 = omega (arith, long) in
    ap (λ (l : List _). take 64 (drop (k * 64) l)) (padded_is 512 z (over (run 0 m) f) short)
    ∙ ap (take 64) (drop-append-le (k * 64) (over (run 0 m) f) _ (omega (arith, long, fits)))
    ∙ take-append-le 64 (drop (k * 64) (over (run 0 m) f)) _ (omega (arith, length-drop (k * 64) (over (run 0 m) f), long, fits))
    ∙ row-over 64 f m 0 k even-in h
    ∙ ap f (let q : 0 + k ≡ k = omega arith in q)
