-- The table of byte strides, filled row by row and read back. Behind the plan's axes it holds 0, where the definition's table may not: no rule
-- looks there. Assumes nothing.
use mathlib.Core.Path.{◌≡◌, sym, ap, ◌∙◌}
use mathlib.Core.List.{List, [], ◌++◌, map, append-nil}
use Prim.Native.Nat.{ℕ, ◌+◌, ◌*◌, ◌≤◌, ◌<◌}
use native.Mathlib.Nat.{zero-add}
use native.Mathlib.Numerals.{add-one}
use native.Mathlib.Omega.{arith}
use lib.IntN.{ℤ}
use lib.ListN.{length, get_or, set, take}
use lib.Seq.{take_all}
use Rattle.strided.specs.Base.{padded, over, run}
use Rattle.strided.specs.Region.{byte_at, byte_table}
use Rattle.strided.specs.declared.Machine.{Machine}
use Rattle.laws.specs.Base.Arrays.{length-padded, get_d_padded, get_d_rows}
use Rattle.laws.specs.Base.Lists.{get_d_run}
use Rattle.laws.specs.Base.Filling.{fill_at, length-rows}
use Rattle.laws.specs.Base.Stores.{fill_next, padded-row}
use Rattle.laws.specs.Cut.Image.{image, Images}
use Rattle.laws.specs.Cut.Tables.{byte_at_lem}
use Rattle.laws.specs.Fuse.Arrays.{rows_more, length-rows as length_over}
use Rattle.model.specs.ByteRows.{byte_of, byte_row, byte_rows}

module _ (mc : Machine) (sizes : List ℕ) (strides : List ℤ) (rank : ℕ) where
  -- the rows before operand k's, and its own without the padding
  front : ℕ → List ℕ
  front k = over (run 0 k) (byte_row mc sizes strides rank)

  own : ℕ → List ℕ
  own k = map (byte_of mc sizes strides k) (run 0 rank)

  front_long : (k : ℕ) → length (front k) ≡ k * 64
  unfolding front
  front_long k = length_over (byte_row mc sizes strides rank) 64 0 k (λ j. length-padded 0 64 (map (byte_of mc sizes strides j) (run 0 rank)))

  own_long : (k : ℕ) → length (own k) ≡ rank
  unfolding own
  own_long k = length-rows (byte_of mc sizes strides k) 0 rank

  -- the rows before k stand, and the first i places of row k
  pub Filling : ℕ → ℕ → List ℕ → Type 0
  Filling k i t = t ≡ padded 512 0 (front k ++ take i (own k))

  pub rows_none : (t : List ℕ) → t ≡ padded 512 0 [] → t ≡ byte_rows mc sizes strides rank 0
  unfolding byte_rows
  rows_none t e = e

  pub row_first : (k : ℕ) (t : List ℕ) → t ≡ byte_rows mc sizes strides rank k → Filling k 0 t
  unfolding byte_rows front Filling
  row_first k t e = e ∙ ap (padded 512 0) (sym (append-nil (over (run 0 k) (byte_row mc sizes strides rank))))

  pub row_turn : (k i : ℕ) (t : List ℕ) (v : ℕ) → k < 8 → i < rank → rank ≤ 64 → Filling k i t → v ≡ byte_of mc sizes strides k i → Filling k (i + 1) (set t (k * 64 + i) v)
  unfolding own Filling
  row_turn k i t v h l axes f e =
      let z : 0 + i ≡ i = omega arith in
      let at : k * 64 + i ≡ length (front k) + i = omega (arith, front_long k) in
      let is : v ≡ get_or (map (byte_of mc sizes strides k) (run 0 rank)) i 0 = e ∙ sym (get_d_run (byte_of mc sizes strides k) 0 rank 0 i l ∙ ap (byte_of mc sizes strides k) z) in
      rw (f, at, is) (fill_next 0 512 (front k) (map (byte_of mc sizes strides k) (run 0 rank)) i (omega (arith, front_long k, own_long k)) (omega (arith, own_long k)))

  pub row_done : (k i : ℕ) (t : List ℕ) → k < 8 → rank ≤ 64 → i ≡ rank → Filling k i t → t ≡ byte_rows mc sizes strides rank (k + 1)
  unfolding byte_rows front own Filling
  row_done k i t h l e f =
      f
      ∙ ap (λ (r : List ℕ). padded 512 0 (front k ++ r)) (take_all i (own k) (omega (arith, own_long k)))
      ∙ sym (padded-row 0 512 64 (front k) (own k) (omega (arith, front_long k)) (omega (arith, own_long k)))
      ∙ ap (padded 512 0) (ap (λ (j : ℕ). front k ++ byte_row mc sizes strides rank j) (sym (zero-add k)) ∙ sym (rows_more (byte_row mc sizes strides rank) 0 k) ∙ ap (λ (n : ℕ). over (run 0 n) (byte_row mc sizes strides rank)) (sym (add-one k)))

  -- what is read from the whole table
  pub rows_read : (m : ℕ) (t : List ℕ) → m ≡ length sizes → m ≤ 8 → rank ≤ 64 → t ≡ byte_rows mc sizes strides rank m → Images mc (length sizes) rank t (byte_table sizes strides)
  unfolding byte_rows
  rows_read m t e few axes is k i h l =
      ap (λ (x : List ℕ). byte_at x k i) is
      ∙ get_d_padded 0 512 (over (run 0 m) (byte_row mc sizes strides rank)) (k * 64 + i) (omega arith)
      ∙ get_d_rows 0 (byte_row mc sizes strides rank) (λ j. length-padded 0 64 (map (byte_of mc sizes strides j) (run 0 rank))) m 0 k i (omega arith) (omega arith)
      ∙ ap (λ (j : ℕ). get_or (byte_row mc sizes strides rank j) i 0) (zero-add k)
      ∙ fill_at 64 0 0 (byte_of mc sizes strides k) rank i l axes
      ∙ ap (image mc) (sym (byte_at_lem sizes strides k i (omega arith)))
