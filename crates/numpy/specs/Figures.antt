-- Figures: small descriptions in our numbers, texts byte by byte, and the order of the rows, by computation on the definitions.
-- Assumes nothing.
use Rattle.std.specs.Prelude.{◌≡◌, refl, List, [], ◌∷◌, ℕ, ◌-◌, ◌^◌, ℤ, pos, negsuc, replicate, Option, None, Some}
use Rattle.strided.specs.Digits.{digits_of}
use Rattle.strided.specs.Refusals.{refused_by}
use Rattle.strided.specs.Rows.{numbers}
use Rattle.strided.specs.declared.Refusal.{Refusal}
use Rattle.strided.specs.declared.Refusal.TheVariants.{ByteStrides, Rank, StrideCount}
use Rattle.numpy.specs.Descriptions.{Description, written}
use Rattle.numpy.specs.Numpy.{packed, extents_of, strides_of, from_rows, text_of, number_rows, to_rows}
use Rattle.numpy.specs.Readers.{said}

-- ---- descriptions and our numbers

pub record Case : Type 0 where
  pub says : Description
  pub extents : List ℕ
  pub strides : List ℤ

abbrev case : Description → List ℕ → List ℤ → Case
case d es ss = record { says = d; extents = es; strides = ss }

abbrev Right : List Case → Type 0
Right [] = Unit {0}
Right (c ∷ cs) = (refused_by (from_rows c.says) ≡ None) × (extents_of c.says ≡ c.extents) × (strides_of c.says ≡ c.strides) × Right cs

abbrev pub figures : List Case
figures =
    -- 3 rows of 4 cells of 8 bytes: with its strides, and without
    case (said 8 (3 ∷ 4 ∷ []) (Some (pos 32 ∷ pos 8 ∷ []))) (4 ∷ 3 ∷ []) (pos 1 ∷ pos 4 ∷ [])
    ∷ case (said 8 (3 ∷ 4 ∷ []) None) (4 ∷ 3 ∷ []) (pos 1 ∷ pos 4 ∷ [])
    -- Fortran order, rows backwards and every second column, a broadcast axis
    ∷ case (said 8 (3 ∷ 4 ∷ []) (Some (pos 8 ∷ pos 24 ∷ []))) (4 ∷ 3 ∷ []) (pos 3 ∷ pos 1 ∷ [])
    ∷ case (said 8 (3 ∷ 2 ∷ []) (Some (negsuc 31 ∷ pos 16 ∷ []))) (2 ∷ 3 ∷ []) (pos 2 ∷ negsuc 3 ∷ [])
    ∷ case (said 4 (5 ∷ 6 ∷ []) (Some (pos 0 ∷ pos 4 ∷ []))) (6 ∷ 5 ∷ []) (pos 1 ∷ pos 0 ∷ [])
    -- a zero extent, rank 0
    ∷ case (said 4 (2 ∷ 0 ∷ 3 ∷ []) None) (3 ∷ 0 ∷ 2 ∷ []) (pos 1 ∷ pos 3 ∷ pos 0 ∷ [])
    ∷ case (said 16 [] None) [] []
    -- the least stride, and a size of 2^63 bytes
    ∷ case (said 1 (1 ∷ []) (Some (negsuc 9223372036854775807 ∷ []))) (1 ∷ []) (negsuc 9223372036854775807 ∷ [])
    ∷ case (said 9223372036854775808 (2 ∷ []) (Some (negsuc 9223372036854775807 ∷ []))) (2 ∷ []) (negsuc 0 ∷ [])
    ∷ []

pub figures-right : Right figures
figures-right =
    (refl, refl, refl, (refl, refl, refl, (refl, refl, refl, (refl, refl, refl, (refl, refl, refl, (refl, refl, refl, (refl, refl, refl, (refl, refl, refl, (refl, refl, refl, tt)))))))))

-- "a zero extent makes those before it 0": the extents after each axis, exactly
pub packed-right : packed 4 (2 ∷ 0 ∷ 3 ∷ []) ≡ 0 ∷ 12 ∷ 4 ∷ []
packed-right = refl

-- ---- texts

-- N,8,2 S,3,4 T,-32,8, and the same without T
pub text_right : (written (said 8 (3 ∷ 4 ∷ []) (Some (negsuc 31 ∷ pos 8 ∷ [])))
    ≡ 78 ∷ 44 ∷ 56 ∷ 44 ∷ 50 ∷ 10 ∷ 83 ∷ 44 ∷ 51 ∷ 44 ∷ 52 ∷ 10 ∷ 84 ∷ 44 ∷ 45 ∷ 51 ∷ 50 ∷ 44 ∷ 56 ∷ 10 ∷ [])
    × (written (said 8 (3 ∷ 4 ∷ []) None) ≡ 78 ∷ 44 ∷ 56 ∷ 44 ∷ 50 ∷ 10 ∷ 83 ∷ 44 ∷ 51 ∷ 44 ∷ 52 ∷ 10 ∷ [])
unfolding digits_of
text_right = (refl, refl)

-- at rank 0 S and T stand alone: N,16,0 S T
pub rank_0_right : text_of 16 [] [] ≡ 78 ∷ 44 ∷ 49 ∷ 54 ∷ 44 ∷ 48 ∷ 10 ∷ 83 ∷ 10 ∷ 84 ∷ 10 ∷ []
unfolding digits_of
rank_0_right = refl

-- ---- the rows

-- the numbers of the rows, in the order in which they are asked; 12 before those of a text
pub from-rows : (d : Description) → numbers (from_rows d) ≡ 19 ∷ 1 ∷ []
from-rows d = refl

pub to_rows_lem : (size : ℕ) (es : List ℕ) (ss : List ℤ) (room : ℕ) → numbers (to_rows size es ss room) ≡ 19 ∷ 1 ∷ 3 ∷ 14 ∷ []
to_rows_lem size es ss room = refl

abbrev refused : ℕ → List ℕ → Option (List ℤ) → Option Refusal
refused size es strides = refused_by (from_rows (said size es strides))

-- 19 before 1, at any rank; a computed stride is judged exactly, the first extent is in none of them, and a zero extent takes away what is before it
pub rows_right : (refused 0 (replicate 65 1) None ≡ Some ByteStrides) × (refused 8 (replicate 65 1) (Some (replicate 65 (pos 4))) ≡ Some ByteStrides)
    × (refused 1 (replicate 65 2) None ≡ Some ByteStrides) × (refused 1 (replicate 65 1) None ≡ Some Rank)
    × (refused 1 (1 ∷ (2 ^ 63) ∷ []) None ≡ Some ByteStrides) × (refused 1 (1 ∷ (2 ^ 63 - 1) ∷ []) None ≡ None) × (refused 1 ((2 ^ 64 - 1) ∷ 1 ∷ []) None ≡ None)
    × (refused 1 (5 ∷ (2 ^ 63) ∷ 0 ∷ []) None ≡ None) × (refused 1 (5 ∷ 0 ∷ (2 ^ 63) ∷ []) None ≡ Some ByteStrides)
    × (refused (2 ^ 63) (1 ∷ []) None ≡ Some ByteStrides) × (refused (2 ^ 64 - 1) [] None ≡ None)
rows_right = (refl, refl, refl, refl, refl, refl, refl, refl, refl, refl, refl)

abbrev refused_back : ℕ → List ℕ → List ℤ → Option Refusal
refused_back size es ss = refused_by (number_rows size es ss)

-- 19 on every stride handed over, before 1 before 3
pub back-right : (refused_back 0 [] [] ≡ Some ByteStrides) × (refused_back 2 (replicate 65 1) (pos (2 ^ 62) ∷ []) ≡ Some ByteStrides)
    × (refused_back 2 (replicate 65 1) (negsuc (2 ^ 62 - 1) ∷ []) ≡ Some Rank) × (refused_back 2 (1 ∷ []) [] ≡ Some StrideCount) × (refused_back 2 (1 ∷ []) (negsuc (2 ^ 62 - 1) ∷ []) ≡ None)
back-right = (refl, refl, refl, refl, refl)
