-- Rows laid behind others in an array, and an operand's row taken out of a table. Assumes nothing.
use mathlib.Core.Path.{◌≡◌, sym, ap, ap₂, ◌∙◌}
use mathlib.Core.List.{List, [], ◌∷◌, ◌++◌, append_assoc}
use Prim.Native.Nat.{ℕ, ◌+◌, ◌-◌, ◌*◌, ◌≤◌, ◌<◌}
use native.Mathlib.Omega.{arith}
use lib.ListN.{length, get_or, take, drop, set, length-append}
use lib.Seq.{length-take-le, drop-drop}
use Rattle.strided.specs.Base.{padded, over, run}
use Rattle.laws.specs.Base.Arrays.{length-padded, take_counted}
use Rattle.laws.specs.Base.Filling.{drop_behind, padded_is}
use Rattle.session.proofs.Tabling.{rows_more}
use Rattle.laws.specs.Base.Rows.{length_over}
use Rattle.laws.specs.Base.Stores.{fill_next, set_behind}

-- an array that is z from place `at` on, and a row put there
module _ {A : Type 0} (n : ℕ) (z : A) (out : List A) (at : ℕ) (row : List A) (is : out ≡ padded n z (take at out)) (room : at + length row ≤ n) where
  front : length (take at out) ≡ at
  front = length-take-le at out (omega (arith, ap length is ∙ length-padded z n (take at out)))

  pub put_next : (i : ℕ) (now : List A) (v : A) → i < length row → now ≡ padded n z (take at out ++ take i row) → v ≡ get_or row i z
      → set now (at + i) v ≡ padded n z (take at out ++ take (i + 1) row)
  put_next i now v l e q =
      ap₂ (λ (o : List A) (x : A). set o (at + i) x) e q
      ∙ ap (λ (k : ℕ). set (padded n z (take at out ++ take i row)) (k + i) (get_or row i z)) (sym front)
      ∙ fill_next z n (take at out) row i (omega (arith, front)) l

  -- put there at once
  pub put_all : {k : ℕ} → k ≡ length row → take at out ++ (row ++ drop k (drop at out)) ≡ padded n z (take at out ++ row)
  put_all {k} q =
      let l : length (take at out ++ row) ≡ at + length row = length-append (take at out) row ∙ ap (λ (m : ℕ). m + length row) front in
      sym (append_assoc (take at out) row (drop k (drop at out)))
      ∙ ap (λ (r : List A). (take at out ++ row) ++ r)
      (drop-drop k at out ∙ ap₂ (λ (m : ℕ) (o : List A). drop m o) (ap (λ (m : ℕ). at + m) q) is
      ∙ drop_behind n (at + length row) z (take at out) (let f = front in omega (arith, f)) ∙ ap (λ (m : ℕ). padded (n - m) z []) (sym l))
      ∙ sym (padded_is n z (take at out ++ row) (omega (arith, l, room)))

-- the row behind those that stand in a table
module _ {A : Type 0} (n : ℕ) (z : A) (table : List A) (m : ℕ) (is : table ≡ padded n z (take m table)) (room : m < n) where
  counted : length (take m table) ≡ m
  counted = length-take-le m table (omega (arith, ap length is ∙ length-padded z n (take m table)))

  pub row-added : (v : A) → set table m v ≡ padded n z (take m table ++ (v ∷ []))
  row-added v =
      ap₂ (λ (t : List A) (i : ℕ). set t i v) is (sym counted) ∙ set_behind z n (take m table) v (omega (arith, counted))

-- rows of r places each, one behind the other: the next one is put behind those that stand
module _ {A : Type 0} (n : ℕ) (z : A) (r b : ℕ) (f : ℕ → List A) (even : (j : ℕ) → j < b → length (f j) ≡ r) where
  rows_long : (m : ℕ) → m ≤ b → length (over (run 0 m) f) ≡ m * r
  rows_long m h = length_over r f m 0 (λ j a l. even j (omega arith))

  module _ (m : ℕ) (h : m ≤ b) (room : m * r ≤ n) (out : List A) (is : out ≡ padded n z (over (run 0 m) f)) where
    front_is : take (m * r) out ≡ over (run 0 m) f
    front_is = ap (take (m * r)) is ∙ take_counted z n (m * r) (over (run 0 m) f) (rows_long m h) room

    pub rows-front : out ≡ padded n z (take (m * r) out)
    rows-front = is ∙ ap (padded n z) (sym front_is)

    pub rows_next : {new row : List A} → row ≡ f m → new ≡ padded n z (take (m * r) out ++ row) → new ≡ padded n z (over (run 0 (m + 1)) f)
    rows_next e q = q ∙ ap (padded n z) (ap₂ ◌++◌ front_is e ∙ sym (rows_more f m))
