-- A lent slice that is written from a place on, one place after another or some at once.
-- Assumes nothing.
use mathlib.Core.Path.{◌≡◌, sym, ap, ap₂, ◌∙◌, subst}
use mathlib.Core.List.{List, [], ◌++◌}
use Prim.Native.Nat.{ℕ, zero, suc, ◌+◌, ◌-◌, ◌*◌, ◌^◌, ◌≤◌, ◌<◌}
use native.Mathlib.Nat.{zero-add, zero-mul, mul-le-mul_right}
use native.Mathlib.Omega.{arith}
use lib.IntN.{ℤ, pos, ◌+ℤ◌, ◌*ℤ◌}
use Rattle.std.proofs.lemmas.List.{append-nil, drop_all}
use Rattle.std.proofs.lemmas.List.Edits.{paste_more, paste-paste}
use Rattle.std.proofs.lemmas.Slice.{put_mid-paste}
use borrow.Rule.Slice.PartMut.{put_mid}
use lib.ListN.{length, get_or, take, drop, set, length-append, length-drop}
use lib.Seq.{paste, paste-zero, length-paste, length-take-le, take_all, drop-drop, take-append_seam, drop-append-add, get_or-take}
use mir.Facts.{to_z-of_z, to_z_pos}
use mir.Syntax.{w64}
use mir.Val.{SFits, to_z, of_z}
use Rattle.strided.specs.Base.{over, run}
use Rattle.strided.specs.Bulk.{laid_on}
use Rattle.laws.specs.Base.Lists.{over_last, run-append}
use Rattle.walker.specs.Stretch.{RowsFit}
use Rattle.walker.proofs.Rows.{length_moved, moved_at_lem}
use Rattle.bulk.specs.Blocks.{row_at, rows_for, RowFits, MayPut}

module _ {A : Type 0} where
  -- one place more of a row
  pub row_next : (d d₀ ys : List A) (k : ℕ) (z : A) {x : A} → d ≡ paste d₀ 0 ys k → x ≡ get_or ys k z → k < length d₀ → k < length ys
      → set d k x ≡ paste d₀ 0 ys (k + 1)
  row_next d d₀ ys k z {x} e q h l =
      let p : 0 + k ≡ k = omega arith in
      ap₂ (λ (r : List A) (y : A). set r k y) e q
      ∙ subst (λ (i : ℕ). set (paste d₀ 0 ys k) i (get_or ys k z) ≡ paste d₀ 0 ys (k + 1)) p (paste_more d₀ 0 ys k z (omega (arith, h)) l)

  -- all of it
  pub paste_whole : (d ys : List A) → length ys ≡ length d → paste d 0 ys (length d) ≡ ys
  paste_whole d ys e =
      ap₂ (λ (u v : List A). u ++ v) (take_all (length d) ys (omega (arith, e))) (drop_all (0 + length d) d (omega arith)) ∙ append-nil ys

  -- behind what was written from the first place on
  pub laid_paste : (xs old ys : List A) (n k : ℕ) → length xs ≡ n → length ys ≡ k → paste (laid_on xs old) n ys k ≡ laid_on (xs ++ ys) old
  laid_paste xs old ys n k a b =
      let e : length (xs ++ ys) ≡ length xs + k = length-append xs ys ∙ ap (λ (m : ℕ). length xs + m) b in
      ap (λ (m : ℕ). paste (laid_on xs old) m ys k) (sym a)
      ∙ ap₂ (λ (u v : List A). u ++ v ++ drop (length xs + k) (xs ++ drop (length xs) old)) (take-append_seam xs (drop (length xs) old)) (take_all k ys (omega (arith, b)))
      ∙ ap (λ (l : List A). xs ++ ys ++ l) (drop-append-add xs (drop (length xs) old) k ∙ drop-drop k (length xs) old)
      ∙ ap (λ (m : ℕ). xs ++ ys ++ drop m old) (sym e)

-- ---- the offsets of a stretch, row by row

over_long : (f : ℕ → List ℤ) (m : ℕ) → ((i : ℕ) → length (f i) ≡ m) → (n s : ℕ) → length (over (run s n) f) ≡ n * m
over_long f m h zero s = omega (arith, zero-mul m)
over_long f m h (suc n) s = omega (arith, length-append (f s) (over (run (suc s) n) f), h s, over_long f m h n (suc s))

-- a row has an offset for each operand, and each is o + j * d
module _ (operands : ℕ) (d o : List ℤ) (few : operands ≤ 8) (x : length d ≡ 8) (y : length o ≡ 8) (j : ℕ) where
  own : length (take operands o) ≡ operands
  own = length-take-le operands o (omega (arith, y, few))

  by : length (take operands d) ≡ operands
  by = length-take-le operands d (omega (arith, x, few))

  pub row-many : length (row_at operands d o j) ≡ operands
  row-many = length_moved j (take operands o) (take operands d) (by ∙ sym own) ∙ own

  pub row-place : (k : ℕ) → k < operands → get_or o k (pos 0) +ℤ pos j *ℤ get_or d k (pos 0) ≡ get_or (row_at operands d o j) k (pos 0)
  row-place k h =
      ap₂ (λ (u v : ℤ). u +ℤ pos j *ℤ v) (sym (get_or-take operands o k (pos 0) h)) (sym (get_or-take operands d k (pos 0) h))
      ∙ sym (moved_at_lem j (take operands o) (take operands d) k (by ∙ sym own) (subst (λ (n : ℕ). k < n) (sym own) h))

row_long : {n operands : ℕ} {d o : List ℤ} → RowsFit n operands d o → (j : ℕ) → length (row_at operands d o j) ≡ operands
row_long {n} {operands} {d} {o} f j = row-many operands d o f.few f.moves f.offered j

pub rows_long : {n operands : ℕ} {d o : List ℤ} → RowsFit n operands d o → (j : ℕ) → length (rows_for j operands d o) ≡ j * operands
rows_long {n} {operands} {d} {o} f j = over_long (row_at operands d o) operands (row_long f) j 0

module _ {n operands at : ℕ} {d o₀ os₀ : List ℤ} (f : MayPut n operands at d o₀ os₀) where
  -- j rows are written
  abbrev Rows : ℕ → List ℤ → Type 0
  Rows j os = os ≡ paste os₀ (at * operands) (rows_for j operands d o₀) (j * operands)

  within : (j : ℕ) → j ≤ n → at * operands + j * operands ≤ length os₀
  within j h =
      let r = f.room in
      let e : (at + j) * operands ≤ (at + n) * operands = mul-le-mul_right operands (let g : at + j ≤ at + n = omega arith in g) in
      omega (arith, e, r)

  pub rows_none : Rows 0 os₀
  rows_none = paste-zero os₀ (at * operands) [] ∙ ap (paste os₀ (at * operands) []) (sym (zero-mul operands))

  module _ {j : ℕ} {os : List ℤ} (w : Rows j os) where
    pub rows_as_long : j ≤ n → length os ≡ length os₀
    rows_as_long h = let l = rows_long f.rows j in ap length w ∙ length-paste os₀ (at * operands) (rows_for j operands d o₀) (j * operands) (within j h) (omega (arith, l))

    rows_next : j < n → {os' : List ℤ} → os' ≡ paste os ((at + j) * operands) (row_at operands d o₀ j) operands → Rows (j + 1) os'
    rows_next h {os'} e =
        let R : List ℤ = rows_for j operands d o₀ in
        let long : length (row_at operands d o₀ j) ≡ operands = row_long f.rows j in
        let b = within 0 (let g : 0 ≤ n = omega arith in g) in
        let more : rows_for (j + 1) operands d o₀ ≡ R ++ row_at operands d o₀ j =
        ap (λ (l : List ℕ). over l (row_at operands d o₀)) (run-append j 1 0) ∙ over_last (run 0 j) (0 + j) (row_at operands d o₀)
        ∙ ap (λ (i : ℕ). R ++ row_at operands d o₀ i) (zero-add j) in
        let place : (at + j) * operands ≡ at * operands + j * operands = omega arith in
        let count : j * operands + operands ≡ (j + 1) * operands = omega arith in
        e ∙ ap₂ (λ (l : List ℤ) (i : ℕ). paste l i (row_at operands d o₀ j) operands) w place
        ∙ paste-paste os₀ (at * operands) R (row_at operands d o₀ j) (j * operands) operands (sym (rows_long f.rows j)) (sym long) (omega (arith, b))
        ∙ ap₂ (λ (l : List ℤ) (i : ℕ). paste os₀ (at * operands) l i) (sym more) count

    row_fits : j < n → RowFits j operands d o₀
    row_fits h = record {
      few = f.rows.few;
      moves = f.rows.moves;
      offered = f.rows.offered;
      small = let k = f.small in omega (arith, k, h);
      steps = λ k g. f.steps j k h g;
      fits = λ k g. f.rows.fits j h k g;
    }

    -- the row's part of the slice, as the code lends it; m is the number of operands
    module _ (h : j < n) {m : ℕ} (m-is : m ≡ operands) where
      abbrev from : ℕ
      from = (at + j) * m

      part_long : length (take (from + m - from) (drop from os)) ≡ operands
      part_long =
          let b = within (j + 1) (let g : j + 1 ≤ n = omega (arith, h) in g) in
          let l = rows_as_long (let g : j ≤ n = omega (arith, h) in g) in
          let k : from + m - from ≡ operands = omega (arith, m-is) in
          let at-is : from ≡ (at + j) * operands = ap (λ (x : ℕ). (at + j) * x) m-is in
          let g = length-drop from os in
          ap (λ (x : ℕ). length (take x (drop from os))) k ∙ length-take-le operands (drop from os) (omega (arith, b, l, g, at-is))

      pub row_part : RowFits j (length (take (from + m - from) (drop from os))) d o₀
      row_part = subst (λ (x : ℕ). RowFits j x d o₀) (sym part_long) (row_fits h)

      pub row_put : {row : List ℤ} → row ≡ row_at (length (take (from + m - from) (drop from os))) d o₀ j → Rows (j + 1) (put_mid from (from + m - from) os row)
      row_put {row} e =
          let R : List ℤ = row_at operands d o₀ j in
          rows_next h (put_mid-paste from (from + m - from) os row R operands (e ∙ ap (λ (x : ℕ). row_at x d o₀ j) part_long) (omega (arith, m-is)) (sym (row_long f.rows j))
          ∙ ap (λ (x : ℕ). paste os ((at + j) * x) R operands) m-is)

-- ---- a place of a row, as the code works it out: o + j * d

module _ {j : ℕ} {d : ℤ} (small : j < 2 ^ 63) (d-fits : SFits w64 d) (steps : SFits w64 (pos j *ℤ d)) where
  way-is : to_z w64 j *ℤ to_z w64 (of_z w64 d) ≡ pos j *ℤ d
  way-is i = to_z_pos w64 small i *ℤ to_z-of_z {w = w64} {z = d} d-fits i

  module _ {o : ℤ} (o-fits : SFits w64 o) (fits : SFits w64 (o +ℤ pos j *ℤ d)) where
    place-is : to_z w64 (of_z w64 o) +ℤ to_z w64 (of_z w64 (to_z w64 j *ℤ to_z w64 (of_z w64 d))) ≡ o +ℤ pos j *ℤ d
    place-is i = to_z-of_z {w = w64} {z = o} o-fits i +ℤ (ap (λ (y : ℤ). to_z w64 (of_z w64 y)) way-is ∙ to_z-of_z {w = w64} steps) i

    pub place-fits : SFits w64 (to_z w64 (of_z w64 o) +ℤ to_z w64 (of_z w64 (to_z w64 j *ℤ to_z w64 (of_z w64 d))))
    place-fits = subst (SFits w64) (sym place-is) fits

    pub place-holds : to_z w64 (of_z w64 (to_z w64 (of_z w64 o) +ℤ to_z w64 (of_z w64 (to_z w64 j *ℤ to_z w64 (of_z w64 d))))) ≡ o +ℤ pos j *ℤ d
    place-holds = ap (λ (y : ℤ). to_z w64 (of_z w64 y)) place-is ∙ to_z-of_z {w = w64} fits
