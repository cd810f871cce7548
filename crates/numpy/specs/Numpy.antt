-- ASK 5, BOTH WAYS: "give our extents and element strides with the axes reversed. It shall also go back." "An absent T line means packed: an
-- axis's byte stride is the size times the extents after it. Going back always writes T."
-- Assumes nothing.
use Rattle.std.specs.Prelude.{◌≡◌, ◌⊎◌, Bool, ◌||◌, not, List, [], ◌∷◌, ◌++◌, map, ℕ, ◌*◌, ◌%◌, eqb, ℤ, pos, nat_abs, ◌*ℤ◌, length, Option, None, Some, Result, Err}
use Rattle.std.specs.Int.Signed.{quot_z}
use Rattle.std.specs.List.{list_any}
use Rattle.strided.specs.Base.{padded}
use Rattle.strided.specs.Layout.{total, in_i64}
use Rattle.strided.specs.Refusals.{Row, refused_by, served_unless, row1, row3}
use Rattle.strided.specs.Text.{Listing, listing_or, row14}
use Rattle.strided.specs.declared.Refusal.{Refusal}
use Rattle.strided.specs.declared.Refusal.TheVariants.{ByteStrides, Form}
use Rattle.numpy.specs.Descriptions.{Description, written, InForm, NotInForm}
use Rattle.numpy.specs.declared.Described.{Described}

-- ---- words for lists

-- "with the axes reversed"
abbrev pub reversed : {A : Type 0} → List A → List A
reversed [] = []
reversed (x ∷ xs) = reversed xs ++ (x ∷ [])

-- ---- byte strides

-- for each axis the product of "the extents after it"
abbrev pub afters : List ℕ → List ℕ
afters [] = []
afters (e ∷ es) = total es ∷ afters es

-- "packed: an axis's byte stride is the size times the extents after it"
abbrev pub packed : ℕ → List ℕ → List ℕ
packed size es = map (λ (n : ℕ). size * n) (afters es)

abbrev pub bytes_or : ℕ → List ℕ → Option (List ℤ) → List ℤ
bytes_or size es None = map pos (packed size es)
bytes_or size es (Some ts) = ts

abbrev pub byte_strides : Description → List ℤ
byte_strides d = bytes_or d.size d.shape d.strides

-- ---- a text in our numbers

-- a byte stride in elements: it is a multiple of the size, or the description is refused
abbrev pub element_stride : ℕ → ℤ → ℤ
element_stride size b = quot_z b (pos size)

abbrev pub extents_of : Description → List ℕ
extents_of d = reversed d.shape

abbrev pub strides_of : Description → List ℤ
strides_of d = reversed (map (element_stride d.size) (byte_strides d))

-- 19, "a byte stride that is no multiple of the size, or a computed byte stride outside 64-bit signed"
abbrev pub no_multiple : ℕ → ℤ → Bool
no_multiple size b = not (eqb (nat_abs b % size) 0)

abbrev pub too_far : ℕ → Bool
too_far n = not (in_i64 (pos n))

abbrev pub bytes_wrong : ℕ → List ℕ → Option (List ℤ) → Bool
bytes_wrong size es None = list_any too_far (packed size es)
bytes_wrong size es (Some ts) = list_any (no_multiple size) ts

-- "19: size 0, .."
abbrev pub row19 : Description → Row
row19 d = record { applies = eqb d.size 0 || bytes_wrong d.size d.shape d.strides; refusal = ByteStrides }

-- "after 12 and before every other check; 5 to 7 and 13 do not hold here": then 1
abbrev pub from_rows : Description → List Row
from_rows d = row19 d ∷ row1 d.rank ∷ []

abbrev pub telling : Description → Described
telling d = record { size = d.size; rank = d.rank; extents = padded 64 0 (extents_of d); strides = padded 64 (pos 0) (strides_of d) }

unfoldable pub described : Description → Result Described Refusal
described d = served_unless (refused_by (from_rows d)) (telling d)

-- THE WAY FROM NUMPY: a text gives this
pub record FromNumpy (text : List ℕ) (r : Result Described Refusal) : Type 0 where
  -- a text in the form: what it says
  pub formed : (d : Description) → InForm text d → r ≡ described d
  -- 12, "text not in the form"
  pub unformed : NotInForm text → r ≡ Err Form
  -- one of the two is the case, so the two lines above fix r
  pub either : ((d : Description) × InForm text d) ⊎ NotInForm text

-- ---- our numbers as a text

abbrev pub byte_stride : ℕ → ℤ → ℤ
byte_stride size z = z *ℤ pos size

-- "Going back always writes T."
abbrev pub description_of : ℕ → List ℕ → List ℤ → Description
description_of size es ss =
    record { size = size; rank = length es; shape = reversed es; strides = Some (reversed (map (byte_stride size) ss)) }

abbrev pub text_of : ℕ → List ℕ → List ℤ → List ℕ
text_of size es ss = written (description_of size es ss)

-- 19, "size 0, .. or a computed byte stride outside 64-bit signed", on every stride handed over
abbrev pub stride_out : ℕ → ℤ → Bool
stride_out size z = not (in_i64 (byte_stride size z))

abbrev pub back_row19 : ℕ → List ℤ → Row
back_row19 size ss = record { applies = eqb size 0 || list_any (stride_out size) ss; refusal = ByteStrides }

-- then 1, and 3 of one operand
abbrev pub number_rows : ℕ → List ℕ → List ℤ → List Row
number_rows size es ss = back_row19 size ss ∷ row1 (length es) ∷ row3 (length es) 1 ss ∷ []

-- and 14 of the text
abbrev pub to_rows : ℕ → List ℕ → List ℤ → ℕ → List Row
to_rows size es ss room = number_rows size es ss ++ (row14 (text_of size es ss) room ∷ [])

-- THE WAY BACK: the text's length and the lent bytes afterwards, as the walklist text has them
unfoldable pub to_numpy : ℕ → List ℕ → List ℤ → List ℕ → Listing
to_numpy size es ss room = listing_or (refused_by (to_rows size es ss (length room))) (text_of size es ss) room
