-- ASK 5, THE TEXT: "the lines N,size,rank then S,shape then T,byte strides". "Lines and numbers are formed as in the walklist text." A text is
-- in the form if it is the rendering of what it says, with its T line or without.
-- Assumes nothing.
use Rattle.std.specs.Prelude.{◌≡◌, List, [], ◌++◌, ℕ, ◌≤◌, ℤ, length, Option, None, Some}
use Rattle.strided.specs.Base.{over}
use Rattle.strided.specs.Text.{field, signed_field, line_of, Each, FitU, FitI}

-- what a text says: the size of an element in bytes, the rank, the shape, and the byte strides if there is a T line
pub record Description : Type 0 where
  pub size : ℕ
  pub rank : ℕ
  pub shape : List ℕ
  pub strides : Option (List ℤ)

-- "N,size,rank"
abbrev pub head_line : ℕ → ℕ → List ℕ
head_line size rank = line_of 78 (field size ++ field rank)

-- "S,shape"; "At rank 0 S and T stand alone on their lines."
abbrev pub shape_line : List ℕ → List ℕ
shape_line es = line_of 83 (over es field)

-- "T,byte strides"
abbrev pub strides_line : List ℤ → List ℕ
strides_line ts = line_of 84 (over ts signed_field)

-- "An absent T line": nothing stands there
abbrev pub strides_part : Option (List ℤ) → List ℕ
strides_part None = []
strides_part (Some ts) = strides_line ts

abbrev pub written : Description → List ℕ
written d = head_line d.size d.rank ++ (shape_line d.shape ++ strides_part d.strides)

-- as many byte strides as N tells, each within 64-bit signed
abbrev pub StridesFit : ℕ → Option (List ℤ) → Type 0
StridesFit rank None = Unit {0}
StridesFit rank (Some ts) = (length ts ≡ rank) × Each FitI ts

-- THE FORM: the text says d
pub record InForm (text : List ℕ) (d : Description) : Type 0 where
  -- "at most 16,384 bytes"
  pub short : length text ≤ 16384
  -- the lines, byte for byte
  pub form : text ≡ written d
  -- other counts of numbers than N tells are not in the form; ranks above 64 may be told
  pub axes : length d.shape ≡ d.rank
  -- every number within its 64 bits
  pub size_fits_lem : FitU d.size
  pub rank_fits : FitU d.rank
  pub shape_fits : Each FitU d.shape
  pub strides_fit : StridesFit d.rank d.strides

abbrev pub NotInForm : List ℕ → Type 0
NotInForm text = (d : Description) → InForm text d → ⊥
