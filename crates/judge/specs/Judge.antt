-- ASK 12, THE VERDICT: "The tool accepts exactly if no run leaves the layout and each index of it lies in the runs exactly once". "A rejected
-- list is called short, double or outside: outside if any run leaves the layout, else double if an index comes again, else short."
-- Assumes nothing.
use Rattle.std.specs.Prelude.{◌≡◌, ◌⊎◌, Bool, true, false, cond, ◌&&◌, ◌||◌, not, List, [], ◌∷◌, map, ℕ, zero, suc, ◌+◌, ◌/◌, ◌%◌, min, ltb, eqb, length, replicate, Result, Ok, Err, Option, None, Some}
use Rattle.strided.specs.Base.{over, run, every, some_of}
use Rattle.strided.specs.Layout.{total, within}
use Rattle.strided.specs.Refusals.{Row, refused_by, row1, row5}
use Rattle.strided.specs.declared.Refusal.{Refusal}
use Rattle.strided.specs.declared.Refusal.TheVariants.{TextTotal, Visits}
use Rattle.judge.specs.Visits.{Visit, Formed, NotFormed}
use Rattle.judge.specs.declared.Verdict.{Verdict}
use Rattle.judge.specs.declared.Verdict.TheVariants.{Accepted, Short, Double, Outside}

-- ---- the cells of a run

-- the index k further along axis a
abbrev pub moved : ℕ → ℕ → List ℕ → List ℕ
moved a k [] = []
moved zero k (y ∷ x) = (y + k) ∷ x
moved (suc a) k (y ∷ x) = y ∷ moved a k x

-- "a run of length 1 or more along an original axis from that index"
abbrev pub cells : Visit → List (List ℕ)
cells v = map (λ k. moved v.axis k v.index) (run 0 v.len)

-- the cells of all runs, in their order
abbrev pub met : List Visit → List (List ℕ)
met vs = over vs cells

-- ---- outside

abbrev pub all_in : List ℕ → List (List ℕ) → Bool
all_in es [] = true
all_in es (x ∷ l) = within es x && all_in es l

-- a run leaves the layout: not all of its cells lie within the extents
abbrev pub leaves : List ℕ → Visit → Bool
leaves es v = not (all_in es (cells v))

-- "if any run leaves the layout"
abbrev pub some_leaves : List ℕ → List Visit → Bool
some_leaves es [] = false
some_leaves es (v ∷ vs) = leaves es v || some_leaves es vs

-- ---- the indices of the layout, "Axis 0 quickest": place n of the mark buffer stands for this index

abbrev pub index_at : List ℕ → ℕ → List ℕ
index_at [] n = []
index_at (e ∷ es) n = n % e ∷ index_at es (n / e)

abbrev pub same : List ℕ → List ℕ → Bool
same [] [] = true
same [] (y ∷ ys) = false
same (x ∷ xs) [] = false
same (x ∷ xs) (y ∷ ys) = eqb x y && same xs ys

-- how often the index x stands in a list of indices
abbrev pub often : List ℕ → List (List ℕ) → ℕ
often x [] = 0
often x (y ∷ l) = cond (same x y) 1 0 + often x l

-- how often the index of place n lies in the runs
abbrev pub met_at : List ℕ → List Visit → ℕ → ℕ
met_at es vs n = often (index_at es n) (met vs)

-- "an index comes again"; each index comes
abbrev pub some_again : List ℕ → List Visit → Bool
some_again es vs = some_of (λ n. ltb 1 (met_at es vs n)) 0 (total es)

abbrev pub all_met : List ℕ → List Visit → Bool
all_met es vs = every (λ n. ltb 0 (met_at es vs n)) 0 (total es)

-- ---- the verdict

unfoldable pub verdict : List ℕ → List Visit → Verdict
verdict es vs = cond (some_leaves es vs) Outside (cond (some_again es vs) Double (cond (all_met es vs) Accepted Short))

-- "the mark buffer ends with 1 at each index met and 0 elsewhere, and all 0 for outside"
unfoldable pub marks_of : List ℕ → List Visit → List ℕ
marks_of es vs = map (λ n. min 1 (met_at es vs n)) (run 0 (total es))

unfoldable pub marks_after : List ℕ → List Visit → List ℕ
marks_after es vs = cond (some_leaves es vs) (replicate (total es) 0) (marks_of es vs)

-- ---- the outcome

-- the answer, and the lent bytes afterwards
pub record Judgement : Type 0 where
  pub answer : Result Verdict Refusal
  pub marks : List ℕ

-- "A refusal carries its number and nothing else": the lent bytes are as they were
abbrev pub refusing : Refusal → List ℕ → Judgement
refusing r marks = record { answer = Err r; marks = marks }

abbrev pub judging : List ℕ → List Visit → Judgement
judging es vs = record { answer = Ok (verdict es vs); marks = marks_after es vs }

-- 13, "from 65,537"; with a zero extent the total is 0
abbrev pub cells_row : List ℕ → Row
cells_row es = record { applies = ltb 65536 (total es); refusal = TextTotal }

-- 23, "rank 0 .. or a mark buffer of another length"
abbrev pub buffer_row : List ℕ → ℕ → Row
buffer_row es room = record { applies = eqb (length es) 0 || not (eqb room (total es)); refusal = Visits }

-- "after 5 and 13, which both hold here"; row 1 has the least number
abbrev pub judge_rows : List ℕ → ℕ → List Row
judge_rows es room = row1 (length es) ∷ row5 es ∷ cells_row es ∷ buffer_row es room ∷ []

unfoldable pub judge_refused : List ℕ → ℕ → Option Refusal
judge_refused es room = refused_by (judge_rows es room)

-- a text and its visits, where no row before applies
pub record JudgesText (es text marks : List ℕ) (j : Judgement) : Type 0 where
  -- a text in the form: what it says
  pub formed : (vs : List Visit) → Formed (length es) text vs → j ≡ judging es vs
  -- 23, "a line not in the V form, length 0, an axis not there"
  pub unformed : NotFormed (length es) text → j ≡ refusing Visits marks
  -- one of the two is the case, so the two lines above fix j
  pub either : ((vs : List Visit) × Formed (length es) text vs) ⊎ NotFormed (length es) text

-- THE ENTRY: extents, a text and the lent mark buffer give this judgement
pub record Judges (es text marks : List ℕ) (j : Judgement) : Type 0 where
  pub refused : (r : Refusal) → judge_refused es (length marks) ≡ Some r → j ≡ refusing r marks
  pub judged : judge_refused es (length marks) ≡ None → JudgesText es text marks j
