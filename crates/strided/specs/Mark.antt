-- "The repeat mark shall have three values" (document 02, ask 2): whether two indices of an operand share an offset, exactly up to 4,096
-- cells, and beyond them as far as zero strides and stride sizes tell. "Added too is the repeat mark of an operand, from the extents and
-- its strides": document 01 coins the term.
-- Assumes nothing.
use Rattle.std.specs.Prelude.{◌≡◌, Bool, true, false, cond, ◌&&◌, not, List, [], ◌∷◌, ℕ, ◌+◌, ◌-◌, ◌*◌, ltb, leb, eqb, length, get_or, ℤ, pos, nat_abs, Option, Result}
use Rattle.strided.specs.Base.{some_of, unless}
use Rattle.strided.specs.Layout.{total, has_zero, Within, dot}
use Rattle.strided.specs.Refusals.{Row, refused_by, row1, row3, row5, row6, served_unless}
use Rattle.strided.specs.Fuse.{eq_z}
use Rattle.strided.specs.declared.Refusal.{Refusal}
use Rattle.strided.specs.declared.Mark.{Mark}
use Rattle.strided.specs.declared.Mark.TheVariants.{No, Yes, Undecided}

-- ---- the exact test

-- "two indices share an offset": two different ones within the extents
pub record Shared (es : List ℕ) (ts : List ℤ) : Type 0 where
  pub one : List ℕ
  pub other : List ℕ
  pub one_in : Within es one
  pub other_in : Within es other
  pub differ : one ≡ other → ⊥
  pub same : dot one ts ≡ dot other ts

-- the test holds at some index within the extents
unfoldable pub some_index : List ℕ → (List ℕ → Bool) → Bool
some_index [] t = t []
some_index (e ∷ es) t = some_of (λ k. some_index es (λ x. t (k ∷ x))) 0 e

abbrev pub same_index : List ℕ → List ℕ → Bool
same_index [] [] = true
same_index [] (k ∷ y) = false
same_index (k ∷ x) [] = false
same_index (k ∷ x) (j ∷ y) = eqb k j && same_index x y

abbrev pub meets : List ℤ → List ℕ → List ℕ → Bool
meets ts x y = not (same_index x y) && eq_z (dot x ts) (dot y ts)

-- that claim as a test (crate laws: it holds exactly if `Shared`)
unfoldable pub shared : List ℕ → List ℤ → Bool
shared es ts = some_index es (λ x. some_index es (meets ts x))

-- ---- the quick tests

-- "a zero stride on an axis of extent above 1": axis i has it
abbrev pub stays_at : List ℕ → List ℤ → ℕ → Bool
stays_at es ts i = ltb 1 (get_or es i 0) && eqb (nat_abs (get_or ts i (pos 0))) 0

-- an axis: its extent and the size of its stride; and its part of the reach
pub record Way : Type 0 where
  pub extent : ℕ
  pub size : ℕ

abbrev pub length_of : Way → ℕ
length_of p = (p.extent - 1) * p.size

-- "axes of extent above 1"
abbrev pub ways : List ℕ → List ℤ → List Way
ways [] ts = []
ways (e ∷ es) [] = []
ways (e ∷ es) (t ∷ ts) = unless (leb e 1) (record { extent = e; size = nat_abs t }) (ways es ts)

-- "by rising stride size". Equal sizes may stand in any order: the test below then fails
unfoldable pub insert_up : Way → List Way → List Way
insert_up p [] = p ∷ []
insert_up p (q ∷ ps) = cond (leb p.size q.size) (p ∷ q ∷ ps) (q ∷ insert_up p ps)

unfoldable pub upwards : List Way → List Way
upwards [] = []
upwards (p ∷ ps) = insert_up p (upwards ps)

-- "each stride size exceeds the reach of those before it", which is w so far
unfoldable pub exceeds : ℕ → List Way → Bool
exceeds w [] = true
exceeds w (p ∷ ps) = ltb w p.size && exceeds (w + length_of p) ps

unfoldable pub rises : List ℕ → List ℤ → Bool
rises es ts = exceeds 0 (upwards (ways es ts))

-- ---- the mark

-- "yes exactly if two indices share an offset"
abbrev pub exact_mark : List ℕ → List ℤ → Mark
exact_mark es ts = cond (shared es ts) Yes No

-- "yes for a zero stride on an axis of extent above 1. Otherwise it is no if, by rising stride size over axes of extent above 1, each stride
-- size exceeds the reach of those before it. All else is undecided."
abbrev pub quick_mark : List ℕ → List ℤ → Mark
quick_mark es ts = cond (some_of (stays_at es ts) 0 (length es)) Yes (cond (rises es ts) No Undecided)

-- "Up to a total of 4,096 it is yes or no"; "Zero extents stay a no."
unfoldable pub mark_of : List ℕ → List ℤ → Mark
mark_of es ts = cond (has_zero es) No (cond (leb (total es) 4096) (exact_mark es ts) (quick_mark es ts))

-- ---- the entry

-- "Each row applies exactly under its condition, to entries that have such an input": "row 3 then reads one operand"; "5 and 6 now hold for
-- the mark too"
abbrev pub mark_rows : List ℕ → List ℤ → List Row
mark_rows es ts = row1 (length es) ∷ row3 (length es) 1 ts ∷ row5 es ∷ row6 es 1 (λ k. ts) ∷ []

unfoldable pub mark_refused : List ℕ → List ℤ → Option Refusal
mark_refused es ts = refused_by (mark_rows es ts)

-- THE REPEAT MARK. "A refusal carries its number and nothing else."
unfoldable pub marked : List ℕ → List ℤ → Result Mark Refusal
marked es ts = served_unless (mark_refused es ts) (mark_of es ts)

-- the mark as a number: 0 for no, 1 for yes, 2 for undecided
abbrev pub mark_number : Mark → ℕ
mark_number No = 0
mark_number Yes = 1
mark_number Undecided = 2
