-- Laws of lines: the fields one after the other, as a loop measures and writes them, and the lines K, A, B and Z by their numbers.
-- Assumes nothing.
use mathlib.Core.Path.{◌≡◌, ap, ◌∙◌}
use mathlib.Core.List.{List, [], ◌∷◌, ◌++◌, append_assoc, append-nil}
use Prim.Native.Nat.{ℕ, ◌+◌, ◌*◌, ◌≤◌, ◌<◌}
use native.Mathlib.Numerals.{add-one}
use native.Mathlib.Omega.{arith}
use lib.IntN.{ℤ}
use lib.ListN.{length, get_or, drop, length-append}
use lib.Seq.{drop-cons}
use Rattle.strided.specs.Base.{over}
use Rattle.strided.specs.Text.{field, signed_field, line_of, rank_line, axis_line, block_line}
use Rattle.writing.specs.Put.{Wrote}
use Rattle.writing.specs.Line.{fields_of, figures_line}
use Rattle.writing.proofs.Doing.{Doing, doing_next}

-- ---- what a loop over the elements has left, from element i on

module _ {A : Type 0} (f : A → List ℕ) (xs : List A) (i : ℕ) where
  over-at : (d : A) → i < length xs → over (drop i xs) f ≡ f (get_or xs i d) ++ over (drop (i + 1) xs) f
  over-at d h = rw (drop-cons xs i d h, add-one i)

-- the loop that writes: the fields from the i-th on are left
module _ {A : Type 0} (f : A → List ℕ) (xs : List A) (i : ℕ) {old : List ℕ} {at : ℕ} {whole new : List ℕ} {p : ℕ}
    (w : Doing old at whole new p (over (drop i xs) f)) where
  pub each_next : (d : A) → i < length xs → {newer : List ℕ} {q : ℕ} → Wrote new p (f (get_or xs i d)) newer q
      → Doing old at whole newer q (over (drop (i + 1) xs) f)
  each_next d h = doing_next (f (get_or xs i d)) (over (drop (i + 1) xs) f) (over-at f xs i d h) w

-- the loop that measures: the first i fields take k bytes, each of them 21 at most
pub record Measuring {A : Type 0} (f : A → List ℕ) (xs : List A) (k i : ℕ) : Type 0 where
  pub left : k + length (over (drop i xs) f) ≡ length (over xs f)
  pub most : k ≤ 21 * i
  pub within : i ≤ length xs

-- ---- the lines

-- the parts of a line in the order they are written
pub line_parts : (letter : ℕ) (ns : List ℕ) (zs : List ℤ)
    → line_of letter (fields_of ns zs) ≡ (letter ∷ []) ++ (over ns field ++ (over zs signed_field ++ (10 ∷ [])))
line_parts letter ns zs = ap (λ (l : List ℕ). letter ∷ l) (append_assoc (over ns field) (over zs signed_field) (10 ∷ []))

pub line_length : (letter : ℕ) (ns : List ℕ) (zs : List ℤ)
    → length (line_of letter (fields_of ns zs)) ≡ 2 + length (over ns field) + length (over zs signed_field)
line_length letter ns zs = ap length (line_parts letter ns zs) ∙ simp length-append (omega arith)

-- a text that is the line of such fields: its length, and the room for it
pub line_measured : (letter : ℕ) (ns : List ℕ) (zs : List ℤ) {t : List ℕ} → line_of letter (fields_of ns zs) ≡ t → {r : ℕ} → r ≡ 2 + length (fields_of ns zs) → r ≡ length t
line_measured letter ns zs e h =
    let l = length-append (fields_of ns zs) (10 ∷ []) in
    let q = ap length e in
    omega arith

pub line_room : {t u : List ℕ} → t ≡ u → (at room : ℕ) → at + length u ≤ room → at + length t ≤ room
line_room e at room h = rw e h

-- the fields of a line of two numbers
pub figures_fields : (blocks cells : ℕ) → fields_of (blocks ∷ cells ∷ []) [] ≡ field blocks ++ field cells
figures_fields blocks cells = append-nil (field blocks ++ (field cells ++ [])) ∙ ap (λ (l : List ℕ). field blocks ++ l) (append-nil (field cells))

-- and the lines by their numbers
pub figures_is : (blocks cells : ℕ) → line_of 90 (fields_of (blocks ∷ cells ∷ []) []) ≡ figures_line blocks cells
figures_is blocks cells = ap (line_of 90) (figures_fields blocks cells)

pub rank_is : (n : ℕ) → line_of 75 (fields_of (n ∷ []) []) ≡ rank_line n
rank_is n = ap (line_of 75) (append_assoc (field n) [] [] ∙ append-nil (field n))

pub block_is : (n len : ℕ) (os : List ℤ) → line_of 66 (fields_of (n ∷ len ∷ []) os) ≡ block_line n len os
block_is n len os =
    ap (line_of 66) (append_assoc (field n) (field len ++ []) (over os signed_field) ∙ ap (λ (l : List ℕ). field n ++ l) (append_assoc (field len) [] (over os signed_field)))

pub axis_is : (i e b : ℕ) (ts : List ℤ) → line_of 65 (fields_of (i ∷ e ∷ b ∷ []) ts) ≡ axis_line i e b ts
axis_is i e b ts =
    ap (line_of 65)
    (append_assoc (field i) (field e ++ (field b ++ [])) (over ts signed_field)
    ∙ ap (λ (l : List ℕ). field i ++ l)
    (append_assoc (field e) (field b ++ []) (over ts signed_field) ∙ ap (λ (l : List ℕ). field e ++ l) (append_assoc (field b) [] (over ts signed_field))))
