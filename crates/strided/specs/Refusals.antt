-- "Refused layouts and calls": the rows with their numbers, "the least number wins", and what planning refuses. The other entries put the
-- rows they check into lists of their own.
-- Assumes nothing.
use Rattle.std.specs.Prelude.{◌≡◌, Bool, false, cond, ◌&&◌, ◌||◌, not, List, [], ◌∷◌, ◌++◌, ℕ, ◌-◌, ◌*◌, ◌<◌, ltb, leb, eqb, ℤ, pos, neg_ℤ, ◌+ℤ◌, ◌-ℤ◌, length, get_or, Option, None, Some, Ok, Err, Result}
use Rattle.strided.specs.declared.Machine.{Machine}
use Rattle.strided.specs.declared.Purpose.{Purpose}
use Rattle.strided.specs.declared.Refusal.{Refusal}
use Rattle.strided.specs.declared.Refusal.TheVariants.{Rank, Operands, StrideCount, Chosen, Total, Reach, StartCount, Offsets, State, Index, Form, TextTotal, Room, Window, CopySizes, Buffer, Repeats, ByteStrides, Ninth, Leaving, Slice, Visits, Record}
use Rattle.strided.specs.Base.{some_of}
use Rattle.strided.specs.Machine.{allowed}
use Rattle.strided.specs.Layout.{stride_row, chosen, total, has_zero, Within, within, dot, reach, reach_down, in_i64, max_u, max_i}

-- "Where an answer is an enum, a definition gives this paper's number"; "7 is given no longer"
abbrev pub number : Refusal → ℕ
number Rank = 1
number Operands = 2
number StrideCount = 3
number Chosen = 4
number Total = 5
number Reach = 6
number StartCount = 8
number Offsets = 9
number State = 10
number Index = 11
number Form = 12
number TextTotal = 13
number Room = 14
number Window = 15
number CopySizes = 16
number Buffer = 17
number Repeats = 18
number ByteStrides = 19
number Ninth = 20
number Leaving = 21
number Slice = 22
number Visits = 23
number Record = 24

-- "the refusal's number negated": what an entry with a signed number as its answer answers
abbrev pub negated : Refusal → ℤ
negated r = neg_ℤ (pos (number r))

-- a row: whether it applies, and its refusal
pub record Row : Type 0 where
  pub applies : Bool
  pub refusal : Refusal

-- "the least number wins": the rows of an entry stand in the order of their numbers, and the first that applies refuses. "except that 12
-- comes first", and "13 then follows 6": so they stand in the text's list. 24 stands "after 4". specs/Rows has the numbers of every entry
abbrev pub refused_by : List Row → Option Refusal
refused_by [] = None
refused_by (r ∷ rs) = cond r.applies (Some r.refusal) (refused_by rs)

-- what an entry answers that refuses so, and else answers this, with which it may refuse what no row speaks of
abbrev pub answers_unless : {A : Type 0} → Option Refusal → Result A Refusal → Result A Refusal
answers_unless None answer = answer
answers_unless (Some r) answer = Err r

-- the same of an entry that else hands out this value
abbrev pub served_unless : {A : Type 0} → Option Refusal → A → Result A Refusal
served_unless o value = answers_unless o (Ok value)

-- of an entry that hands out nothing
abbrev pub answered : Option Refusal → Result (Unit {0}) Refusal
answered o = served_unless o tt

-- 1, "rank above 64"
abbrev pub row1 : ℕ → Row
row1 rank = record { applies = ltb 64 rank; refusal = Rank }

-- 2, "operands 0 or above 8"
abbrev pub row2 : ℕ → Row
row2 operands = record { applies = eqb operands 0 || ltb 8 operands; refusal = Operands }

-- 3, "stride count not rank × operands"
abbrev pub row3 : ℕ → ℕ → List ℤ → Row
row3 rank operands ss = record { applies = not (eqb (length ss) (rank * operands)); refusal = StrideCount }

-- 4, "chosen operand not there"
abbrev pub missing : ℕ → Option ℕ → Bool
missing operands None = false
missing operands (Some k) = leb operands k

abbrev pub row4 : ℕ → Purpose → Row
row4 operands u = record { applies = missing operands (chosen u); refusal = Chosen }

-- 5, "no zero extent, total above 2^64 − 1"
abbrev pub row5 : List ℕ → Row
row5 es = record { applies = not (has_zero es) && ltb max_u (total es); refusal = Total }

-- "Rows 6, 7, 9 pass if an extent is 0", of which 7 is given no longer, and speak of each operand
abbrev pub some_operand : List ℕ → (ℕ → Bool) → ℕ → Bool
some_operand es t operands = not (has_zero es) && some_of t 0 operands

-- 6, "an operand's reach above 2^63 − 1"; the strides of operand k are `strides k`
abbrev pub row6 : List ℕ → ℕ → (ℕ → List ℤ) → Row
row6 es operands strides = record { applies = some_operand es (λ k. ltb max_i (reach es (strides k))) operands; refusal = Reach }

-- 8, "start count not the operand count"
abbrev pub row8 : ℕ → List ℤ → Row
row8 operands starts = record { applies = not (eqb (length starts) operands); refusal = StartCount }

-- 9, "some offset from the start leaves 64-bit signed": the least or the greatest offset does (crate laws: it applies exactly if
-- `OffsetLeaves` below)
abbrev pub leaves : List ℕ → List ℤ → ℤ → Bool
leaves es ts z = not (in_i64 (z -ℤ pos (reach_down es ts)) && in_i64 (z +ℤ pos (reach es ts - reach_down es ts)))

abbrev pub row9 : List ℕ → ℕ → (ℕ → List ℤ) → List ℤ → Row
row9 es operands strides starts =
    record { applies = some_operand es (λ k. leaves es (strides k) (get_or starts k (pos 0))) operands; refusal = Offsets }

-- an operand and an index of the extents at which its offset from the start leaves 64-bit signed. With a zero extent there is no index
pub record OffsetLeaves (es : List ℕ) (operands : ℕ) (strides : ℕ → List ℤ) (starts : List ℤ) : Type 0 where
  pub operand : ℕ
  pub there : operand < operands
  pub index : List ℕ
  pub inside : Within es index
  pub outside : in_i64 (get_or starts operand (pos 0) +ℤ dot index (strides operand)) ≡ false

-- 10, "step on a state no begun walk reaches": specs/Step

-- 11, "counters or index wrong in number or range": x is no index of the extents
abbrev pub row11 : List ℕ → List ℕ → Row
row11 es x = record { applies = not (within es x); refusal = Index }

-- 12 to 14 are the text's, 15 is the window's (crate window)

-- 24, "a record outside these bounds"
abbrev pub row24 : Machine → Row
row24 mc = record { applies = not (allowed mc); refusal = Record }

-- rows 1 to 4 of a layout, and 5 and 6
abbrev pub count_rows : List ℕ → List ℕ → List ℤ → Purpose → List Row
count_rows es sizes ss u = row1 (length es) ∷ row2 (length sizes) ∷ row3 (length es) (length sizes) ss ∷ row4 (length sizes) u ∷ []

abbrev pub span_rows : List ℕ → List ℕ → List ℤ → List Row
span_rows es sizes ss = row5 es ∷ row6 es (length sizes) (stride_row ss (length es)) ∷ []

-- "Rows 5 to 7 are for planning, index finding and text", "7 is given no longer": what index finding refuses of a layout
abbrev pub layout_rows : List ℕ → List ℕ → List ℤ → Purpose → List Row
layout_rows es sizes ss u = count_rows es sizes ss u ++ span_rows es sizes ss

unfoldable pub layout_refused : List ℕ → List ℕ → List ℤ → Purpose → Option Refusal
layout_refused es sizes ss u = refused_by (layout_rows es sizes ss u)

-- what planning refuses: "24: .. only from entries that plan; after 4, and due at a zero extent too"
abbrev pub planning_rows : Machine → List ℕ → List ℕ → List ℤ → Purpose → List Row
planning_rows mc es sizes ss u = count_rows es sizes ss u ++ (row24 mc ∷ span_rows es sizes ss)

unfoldable pub planning_refused : Machine → List ℕ → List ℕ → List ℤ → Purpose → Option Refusal
planning_refused mc es sizes ss u = refused_by (planning_rows mc es sizes ss u)
