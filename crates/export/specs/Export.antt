-- ASK 3: "The board house wants the copy itself, above the planner: operand 0 is the destination, operand 1 the source, each in its lent byte
-- buffer, a cell's bytes starting at offset × size. Afterwards each destination cell holds the source cell of its index, and every byte
-- outside destination cells is as before. A zero extent copies nothing and succeeds, unless a refusal up to 16 is due. The copy follows the P
-- plan with operand 0 chosen. (16: operands not two, or sizes differ or lie outside 1 to 16; 17: some cell outside its buffer; 18: the
-- destination's mark is not no; all after 9, in this order.)" What is copied is said by the original indices: there is no plan in it.
-- Assumes nothing.
use Rattle.std.specs.Prelude.{◌≡◌, Bool, true, false, not, ◌||◌, List, [], ◌∷◌, map, ℕ, ◌/◌, ltb, eqb, ℤ, pos, ◌+ℤ◌, length, get_or, Option, Result}
use Rattle.strided.specs.Base.{over, run}
use Rattle.strided.specs.Layout.{stride_row, Within, dot}
use Rattle.strided.specs.Refusals.{Row, refused_by, row1, row2, row3, row5, row6, row8, row9, row24, served_unless}
use Rattle.strided.specs.Memory.{whether, kept}
use Rattle.strided.specs.Mark.{mark_of}
use Rattle.strided.specs.declared.Machine.{Machine}
use Rattle.strided.specs.declared.Mark.{Mark}
use Rattle.strided.specs.declared.Mark.TheVariants.{No, Yes, Undecided}
use Rattle.strided.specs.declared.Refusal.{Refusal}
use Rattle.strided.specs.declared.Refusal.TheVariants.{CopySizes, Buffer, Repeats}
use Rattle.span.specs.Span.{outside}
use Rattle.cells.specs.Copy.{Pair, pair, copied}
use Rattle.cells.specs.Indexed.{Exported}
use Rattle.cells.specs.Offsets.{place_at}

-- ---- the cells. es, sizes, ss and zs are extents, sizes, strides and starts, as a layout and a walk's beginning have them

-- the offset of operand k at the index x
abbrev pub offset_of : List ℕ → List ℤ → List ℤ → ℕ → List ℕ → ℤ
offset_of es ss zs k x = get_or zs k (pos 0) +ℤ dot x (stride_row ss (length es) k)

-- "a cell's bytes starting at offset × size"
abbrev pub place_of : List ℕ → List ℕ → List ℤ → List ℤ → ℕ → List ℕ → ℕ
place_of es sizes ss zs k x = place_at (get_or sizes k 0) (offset_of es ss zs k x)

-- how many bytes a cell has
abbrev pub width_of : List ℕ → ℕ
width_of sizes = get_or sizes 0 0

-- every index of the extents, axis 0 quickest
abbrev pub indices : List ℕ → List (List ℕ)
indices [] = [] ∷ []
indices (e ∷ es) = over (indices es) (λ v. map (λ k. k ∷ v) (run 0 e))

-- where the cell of an index goes, and where it comes from; and those of all indices
abbrev pub cell_of : List ℕ → List ℕ → List ℤ → List ℤ → List ℕ → Pair
cell_of es sizes ss zs x = pair (place_of es sizes ss zs 0 x) (place_of es sizes ss zs 1 x)

abbrev pub cells_of : List ℕ → List ℕ → List ℤ → List ℤ → List Pair
cells_of es sizes ss zs = map (cell_of es sizes ss zs) (indices es)

-- THE DESTINATION AFTERWARDS, as a fold that computes: the cells of the source are laid into the destination, one index after the other
unfoldable pub exported : List ℕ → List ℕ → List ℤ → List ℤ → List ℕ → List ℕ → List ℕ
exported es sizes ss zs dst src = copied (width_of sizes) (cells_of es sizes ss zs) dst src

-- and as the sentence: "each destination cell holds the source cell of its index, and every byte outside destination cells is as before"
-- (proofs/Meaning: where nothing is refused it holds of `exported`, and of nothing else)
abbrev pub Afterwards : List ℕ → List ℕ → List ℤ → List ℤ → List ℕ → List ℕ → List ℕ → Type 0
Afterwards es sizes ss zs dst src out =
    Exported (Within es) (place_of es sizes ss zs 0) (place_of es sizes ss zs 1) (width_of sizes) dst src out

-- ---- the rows

-- 16, "operands not two, or sizes differ or lie outside 1 to 16"
abbrev pub row16 : List ℕ → Row
row16 sizes =
    record {
      applies =
          not (eqb (length sizes) 2)
          || (not (eqb (get_or sizes 0 0) (get_or sizes 1 0)) || (eqb (get_or sizes 0 0) 0 || ltb 16 (get_or sizes 0 0)));
      refusal = CopySizes;
    }

-- 17, "some cell outside its buffer": a buffer of so many bytes has room for len / size cells (proofs/Outside: it applies exactly if some
-- byte of some cell is outside)
abbrev pub outside_at : List ℕ → List ℕ → List ℤ → List ℤ → ℕ → ℕ → Bool
outside_at es sizes ss zs k len = outside es (stride_row ss (length es) k) (get_or zs k (pos 0)) (len / get_or sizes k 0)

abbrev pub row17 : List ℕ → List ℕ → List ℤ → List ℤ → ℕ → ℕ → Row
row17 es sizes ss zs to from =
    record { applies = outside_at es sizes ss zs 0 to || outside_at es sizes ss zs 1 from; refusal = Buffer }

-- 18, "the destination's mark is not no"
abbrev pub is_no : Mark → Bool
is_no No = true
is_no Yes = false
is_no Undecided = false

abbrev pub row18 : List ℕ → List ℤ → Row
row18 es ss = record { applies = not (is_no (mark_of es (stride_row ss (length es) 0))); refusal = Repeats }

-- "all after 9, in this order". `to` and `from` are the lengths of the buffers
abbrev pub cell_rows : List ℕ → List ℕ → List ℤ → List ℤ → ℕ → ℕ → List Row
cell_rows es sizes ss zs to from = row16 sizes ∷ row17 es sizes ss zs to from ∷ row18 es ss ∷ []

abbrev pub copy_rows : Machine → List ℕ → List ℕ → List ℤ → List ℤ → ℕ → ℕ → List Row
copy_rows mc es sizes ss zs to from =
    row1 (length es) ∷ row2 (length sizes) ∷ row3 (length es) (length sizes) ss ∷ row24 mc ∷ row5 es
    ∷ row6 es (length sizes) (stride_row ss (length es)) ∷ row8 (length sizes) zs
    ∷ row9 es (length sizes) (stride_row ss (length es)) zs ∷ cell_rows es sizes ss zs to from

unfoldable pub copy_refused : Machine → List ℕ → List ℕ → List ℤ → List ℤ → ℕ → ℕ → Option Refusal
copy_refused mc es sizes ss zs to from = refused_by (copy_rows mc es sizes ss zs to from)

-- ---- the entry

-- THE COPY: the destination afterwards, or the refusal
unfoldable pub copy_done : Machine → List ℕ → List ℕ → List ℤ → List ℤ → List ℕ → List ℕ → Result (List ℕ) Refusal
copy_done mc es sizes ss zs dst src =
    served_unless (copy_refused mc es sizes ss zs (length dst) (length src)) (exported es sizes ss zs dst src)

-- the answer r, and the destination that held `old`. "A refusal carries its number and nothing else": then it keeps every byte
pub record Done (done : Result (List ℕ) Refusal) (old new : List ℕ) (r : Result (Unit {0}) Refusal) : Type 0 where
  pub answer : r ≡ whether done
  pub destination : new ≡ kept (λ out. out) done old
