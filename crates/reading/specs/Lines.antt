-- What the readers of the lines behind L answer: the E line, the front of an O line, an O line, all O lines, all of these to the text's end.
-- Numbers are laid into arrays from a place on (`sets`), as far as an array has places.
-- Assumes nothing.
use Rattle.std.specs.Prelude.{◌≡◌, List, ◌∷◌, ◌++◌, map, ℕ, ℤ, length, Option, Some, None}
use Rattle.std.specs.Borrow.{Bor}
use Rattle.std.proofs.lemmas.List.Edits.{sets}
use Rattle.strided.specs.Base.{over}
use Rattle.strided.specs.Text.{Each, FitU, LineFits, OperandLine, field, extents_line, operand_line}

-- ---- the E line

pub record ExtentsHere (rank : ℕ) (t es rest : List ℕ) : Type 0 where
  pub count : length es ≡ rank
  pub fits : Each FitU es
  pub form : t ≡ extents_line es ++ rest

pub record TakesExtents (t : List ℕ) (rank : ℕ) (old new : List ℕ) (r : Option (Bor (List ℕ))) : Type 0 where
  pub to : (rest : Bor (List ℕ)) → r ≡ Some rest → (es : List ℕ) × ExtentsHere rank t es rest.now × (new ≡ sets old 0 es)
  pub bad : r ≡ None → (es rest : List ℕ) → ExtentsHere rank t es rest → ⊥

-- ---- an O line

abbrev pub size_text : ℕ → List ℕ
size_text n = 79 ∷ field n

pub record OperandHere (rank : ℕ) (t : List ℕ) (o : OperandLine) (rest : List ℕ) : Type 0 where
  pub fits : LineFits rank o
  pub form : t ≡ operand_line o ++ rest

pub record TakesOperand (t : List ℕ) (rank from : ℕ) (old new : List ℤ) (r : Option (ℕ × Bor (List ℕ))) : Type 0 where
  pub value : (size : ℕ) (rest : Bor (List ℕ)) → r ≡ Some (size, rest)
      → (o : OperandLine) × (o.size ≡ size) × OperandHere rank t o rest.now × (new ≡ sets old from o.strides)
  pub bad : r ≡ None → (o : OperandLine) (rest : List ℕ) → OperandHere rank t o rest → ⊥

-- ---- `count` O lines: the sizes are laid from place k on, the strides from place `from` on

pub record OperandsHere (rank n : ℕ) (t : List ℕ) (ls : List OperandLine) (rest : List ℕ) : Type 0 where
  pub count : length ls ≡ n
  pub fits : Each (LineFits rank) ls
  pub form : t ≡ over ls operand_line ++ rest

abbrev pub sizes_in : List OperandLine → List ℕ
sizes_in ls = map (λ (o : OperandLine). o.size) ls

abbrev pub strides_in : List OperandLine → List ℤ
strides_in ls = over ls (λ (o : OperandLine). o.strides)

pub record TakesOperands (t : List ℕ) (rank count k from : ℕ) (sizes sizes' : List ℕ) (strides strides' : List ℤ) (r : Option (Bor (List ℕ))) : Type 0 where
  pub to : (rest : Bor (List ℕ)) → r ≡ Some rest
      → (ls : List OperandLine) × OperandsHere rank count t ls rest.now × (sizes' ≡ sets sizes k (sizes_in ls)) × (strides' ≡ sets strides from (strides_in ls))
  pub bad : r ≡ None → (ls : List OperandLine) (rest : List ℕ) → OperandsHere rank count t ls rest → ⊥

-- ---- all of them, and nothing behind

pub record LinesHere (rank operands : ℕ) (t es : List ℕ) (ls : List OperandLine) : Type 0 where
  pub axes : length es ≡ rank
  pub extents_fit : Each FitU es
  pub operand_lines : length ls ≡ operands
  pub rows : Each (LineFits rank) ls
  pub form : t ≡ extents_line es ++ over ls operand_line

-- the three arrays, and what they hold then
pub record Arrays : Type 0 where
  pub extents : List ℕ
  pub sizes : List ℕ
  pub strides : List ℤ

abbrev pub arrays : List ℕ → List ℕ → List ℤ → Arrays
arrays es sizes strides = record { extents = es; sizes = sizes; strides = strides }

abbrev pub laid : Arrays → List ℕ → List OperandLine → Arrays
laid a es ls = arrays (sets a.extents 0 es) (sets a.sizes 0 (sizes_in ls)) (sets a.strides 0 (strides_in ls))

pub record TakesLines (t : List ℕ) (rank operands : ℕ) (old new : Arrays) (r : Option (Unit {0})) : Type 0 where
  pub yes : r ≡ Some tt → (es : List ℕ) × (ls : List OperandLine) × LinesHere rank operands t es ls × (new ≡ laid old es ls)
  pub no : r ≡ None → (es : List ℕ) (ls : List OperandLine) → LinesHere rank operands t es ls → ⊥
