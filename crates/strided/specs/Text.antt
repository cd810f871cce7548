-- "The walklist text": which texts are in the form, what is printed for each, and what the text entry answers. Texts are lists of bytes:
-- LF 10, `,` 44, `-` 45, digits from 48, letters as in ASCII. The form is said by rendering: a text is in it if it is the rendering of
-- what it says, byte for byte.
-- Assumes nothing.
use Rattle.std.specs.Prelude.{◌≡◌, ◌⊎◌, List, [], ◌∷◌, ◌++◌, map, ℕ, suc, ◌+◌, ◌^◌, ◌≤◌, ◌<◌, ltb, length, get_or, take, drop, replicate, ℤ, pos, Option, None, Some, Ok, Err, Result}
use Rattle.std.specs.Int.Signed.{mag}
use Rattle.strided.specs.Base.{over, run, first}
use Rattle.strided.specs.Layout.{stride_row, chosen, lead_of, total}
use Rattle.strided.specs.Refusals.{Row, refused_by, number, row1, row2, row4, row5, row6}
use Rattle.strided.specs.Machine.{fixed_four}
use Rattle.strided.specs.Walk.{Block, block, blocks_of}
use Rattle.strided.specs.Begin.{plan_extents, plan_blocks, plan_rows}
use Rattle.strided.specs.Step.{plan_cut_axes, offsets_from}
use Rattle.strided.specs.Digits.{digits_of, signed_of}
use Rattle.strided.specs.declared.Purpose.{Purpose}
use Rattle.strided.specs.declared.Purpose.TheVariants.{Pointwise, PointwiseInto, Fold}
use Rattle.strided.specs.declared.Refusal.{Refusal}
use Rattle.strided.specs.declared.Refusal.TheVariants.{Form, TextTotal, Room}
use Rattle.strided.specs.declared.Plan.{Plan}
use Rattle.strided.specs.Plan.{the_plan}

-- ---- lines of fields

abbrev pub field : ℕ → List ℕ
field n = 44 ∷ digits_of n

abbrev pub signed_field : ℤ → List ℕ
signed_field z = 44 ∷ signed_of z

-- "lines end in LF": a letter, its fields, LF
abbrev pub line_of : ℕ → List ℕ → List ℕ
line_of letter fields = letter ∷ (fields ++ (10 ∷ []))

-- ---- the input

-- an operand's line: its size and its strides
pub record OperandLine : Type 0 where
  pub size : ℕ
  pub strides : List ℤ

-- what an input text says: the purpose with the chosen operand, the counts that L tells, and the lines behind
pub record Parsed : Type 0 where
  pub purpose : Purpose
  pub rank : ℕ
  pub operands : ℕ
  pub extents : List ℕ
  pub lines : List OperandLine

-- "The purpose is P .. or F"
abbrev pub purpose_letter : Purpose → ℕ
purpose_letter Pointwise = 80
purpose_letter (PointwiseInto k) = 80
purpose_letter (Fold k) = 70

-- "chosen (`-` for none, P only)": a fold always has a number
abbrev pub chosen_field : Option ℕ → List ℕ
chosen_field None = 44 ∷ 45 ∷ []
chosen_field (Some k) = field k

-- "L,purpose,rank,operands,chosen"
abbrev pub head_line : Purpose → ℕ → ℕ → List ℕ
head_line u rank operands = line_of 76 ((44 ∷ purpose_letter u ∷ []) ++ (field rank ++ (field operands ++ chosen_field (chosen u))))

-- "E,extents"; "At rank 0 the lines are `E` and O,size": no field, no comma
abbrev pub extents_line : List ℕ → List ℕ
extents_line es = line_of 69 (over es field)

-- "then O,size,strides per operand"
abbrev pub operand_line : OperandLine → List ℕ
operand_line o = line_of 79 (field o.size ++ over o.strides signed_field)

-- "Input lines: L,..; E,extents; then O,size,strides per operand."
abbrev pub written : Parsed → List ℕ
written p = head_line p.purpose p.rank p.operands ++ (extents_line p.extents ++ over p.lines operand_line)

-- "a number outside its 64 bits": each lies inside
abbrev pub FitU : ℕ → Type 0
FitU n = n < 2 ^ 64

abbrev pub FitI : ℤ → Type 0
FitI z = mag z < 2 ^ 63

module _ {A : Type 0} where
  abbrev pub Each : (A → Type 0) → List A → Type 0
  Each P [] = Unit {0}
  Each P (x ∷ xs) = P x × Each P xs

-- an operand's line has `rank` strides, and its numbers fit
pub record LineFits (rank : ℕ) (o : OperandLine) : Type 0 where
  pub count : length o.strides ≡ rank
  pub size_fits_lem : FitU o.size
  pub strides_fit : Each FitI o.strides

-- THE FORM: the text says p
pub record InForm (text : List ℕ) (p : Parsed) : Type 0 where
  -- "at most 16,384 bytes"
  pub short : length text ≤ 16384
  -- the lines, byte for byte
  pub form : text ≡ written p
  -- "Other counts of lines, extents or strides than L tells .. are not in the form": ranks above 64, operands 0 or above 8 may be told
  pub axes : length p.extents ≡ p.rank
  pub operand_lines : length p.lines ≡ p.operands
  pub rows : Each (LineFits p.rank) p.lines
  -- "or a number outside its 64 bits"
  pub rank_fits : FitU p.rank
  pub operands_fit : FitU p.operands
  pub chosen_fits : FitU (lead_of (chosen p.purpose))
  pub extents_fit : Each FitU p.extents

abbrev pub NotInForm : List ℕ → Type 0
NotInForm text = (p : Parsed) → InForm text p → ⊥

-- the layout that a text says: the sizes, and "one flat slice" of strides
abbrev pub sizes_of : Parsed → List ℕ
sizes_of p = map (λ (o : OperandLine). o.size) p.lines

abbrev pub strides_of : Parsed → List ℤ
strides_of p = over p.lines (λ (o : OperandLine). o.strides)

-- ---- the output

-- "K,plan rank"
abbrev pub rank_line : ℕ → List ℕ
rank_line n = line_of 75 (field n)

-- "A,axis,extent,block,one stride per operand"
abbrev pub axis_line : ℕ → ℕ → ℕ → List ℤ → List ℕ
axis_line i e b ts = line_of 65 (field i ++ (field e ++ (field b ++ over ts signed_field)))

-- axis i of the plan
abbrev pub axis_of : Plan → ℕ → List ℕ
axis_of p i = axis_line i (get_or (plan_extents p) i 0) (get_or (plan_blocks p) i 0) (map (λ ts. get_or ts i (pos 0)) (plan_rows p))

-- "B,number,length,one offset per operand"
abbrev pub block_line : ℕ → ℕ → List ℤ → List ℕ
block_line n len os = line_of 66 (field n ++ (field len ++ over os signed_field))

-- "Starts are 0."
abbrev pub zero_starts : Plan → List ℤ
zero_starts p = replicate p.operands (pos 0)

abbrev pub block_of : Plan → ℕ → Block → List ℕ
block_of p n (block c len) = block_line n len (offsets_from (plan_rows p) (zero_starts p) c)

-- the blocks n, n + 1, ..
abbrev pub block_lines : Plan → ℕ → List Block → List ℕ
block_lines p n [] = []
block_lines p n (b ∷ bs) = block_of p n b ++ block_lines p (suc n) bs

-- "Z figures .. equal the number of B blocks and the sum of their lengths"
abbrev pub cells_in : Block → ℕ
cells_in (block c len) = len

abbrev pub cells_of : List Block → ℕ
cells_of [] = 0
cells_of (b ∷ bs) = cells_in b + cells_of bs

-- "Z,blocks,cells"
abbrev pub end_line : List Block → List ℕ
end_line bs = line_of 90 (field (length bs) ++ field (cells_of bs))

-- the blocks of the plan's walk, in document 01's order
abbrev pub plan_walk : Plan → List Block
plan_walk p = blocks_of (plan_cut_axes p)

-- "Output: K,plan rank; A,..; B,..; Z,blocks,cells."
unfoldable pub printed_plan : Plan → List ℕ
printed_plan p = rank_line p.rank ++ (over (run 0 p.rank) (axis_of p) ++ (block_lines p 0 (plan_walk p) ++ end_line (plan_walk p)))

-- "the walklist text keeps the fixed four"
unfoldable pub printed : List ℕ → List ℕ → List ℤ → Purpose → List ℕ
printed es sizes ss u = printed_plan (the_plan fixed_four es sizes ss u)

abbrev pub printed_of : Parsed → List ℕ
printed_of p = printed p.extents (sizes_of p) (strides_of p) p.purpose

-- ---- the outcome

-- 13, "total above 1,048,576 in text"; with a zero extent the total is 0
abbrev pub row13 : List ℕ → Row
row13 es = record { applies = ltb 1048576 (total es); refusal = TextTotal }

-- 14, "output longer than the lent buffer"
abbrev pub row14 : List ℕ → ℕ → Row
row14 out room = record { applies = ltb room (length out); refusal = Room }

-- "the least number wins, except that 12 comes first", and "13 then follows 6": rows 1, 2, 4, 5, 6 of the layout. Row 3 cannot apply to a text in the
-- form, rows 8 to 11 have no input here
abbrev pub layout_rows_of : Parsed → List Row
layout_rows_of p =
    row1 p.rank ∷ row2 p.operands ∷ row4 p.operands p.purpose ∷ row5 p.extents
    ∷ row6 p.extents p.operands (stride_row (strides_of p) p.rank) ∷ []

-- and the rows of the text itself
abbrev pub output_rows : Parsed → ℕ → List Row
output_rows p room = row13 p.extents ∷ row14 (printed_of p) room ∷ []

-- those, then 13, then 14: the output is asked for only where none before applies
unfoldable pub text_refused : Parsed → ℕ → Option Refusal
text_refused p room = first (refused_by (layout_rows_of p)) (refused_by (output_rows p room))

-- the output's length, or what refuses, and the lent bytes afterwards. Memory has the one number that C gets
pub record Listing : Type 0 where
  pub answer : Result ℕ Refusal
  pub room : List ℕ

-- "A refusal carries its number and nothing else": the lent bytes are as they were
abbrev pub refusing : Refusal → List ℕ → Listing
refusing r room = record { answer = Err r; room = room }

-- "bytes behind the output's length stay"
abbrev pub filling : List ℕ → List ℕ → Listing
filling out room = record { answer = Ok (length out); room = out ++ drop (length out) room }

abbrev pub listing_or : Option Refusal → List ℕ → List ℕ → Listing
listing_or None out room = filling out room
listing_or (Some r) out room = refusing r room

-- what becomes of a text in the form
unfoldable pub listed : Parsed → List ℕ → Listing
listed p room = listing_or (text_refused p (length room)) (printed_of p) room

-- THE TEXT ENTRY: a text and the lent bytes give this listing
pub record Lists (text room : List ℕ) (l : Listing) : Type 0 where
  -- a text in the form: what it says
  pub formed : (p : Parsed) → InForm text p → l ≡ listed p room
  -- 12, "text not in the form"; "12 comes first"
  pub unformed : NotInForm text → l ≡ refusing Form room
  -- one of the two is the case, so the two lines above fix l
  pub either : ((p : Parsed) × InForm text p) ⊎ NotInForm text

-- ---- the program walklist

-- "A refusal prints only R,number."; else the output
abbrev pub printed_for : Result ℕ Refusal → List ℕ → List ℕ
printed_for (Ok n) room = take n room
printed_for (Err r) room = line_of 82 (field (number r))

abbrev pub printed_by : Listing → List ℕ
printed_by l = printed_for l.answer l.room

-- "The program lends 65,536 bytes for output"
abbrev pub Prints : List ℕ → List ℕ → Type 0
Prints text out = (l : Listing) × Lists text (replicate 65536 0) l × (out ≡ printed_by l)
