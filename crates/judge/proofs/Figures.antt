-- Figures: verdicts and marks of short lists, a line as text, the order of the rows, and plans whose axis 0 is an original axis or is not, by
-- computation on the definitions.
-- Assumes nothing.
use Rattle.std.specs.Prelude.{◌≡◌, refl, List, [], ◌∷◌, ℕ, zero, suc, pos, replicate, None, Some}
use Rattle.std.proofs.Common.{arith}
use Rattle.strided.specs.Base.{every, some_of}
use Rattle.strided.specs.Digits.{digits_of}
use Rattle.strided.specs.Rows.{numbers}
use Rattle.strided.specs.declared.Refusal.TheVariants.{Rank, Total, TextTotal, Visits}
use Rattle.strided.specs.Order.{fusing_order}
use Rattle.strided.specs.Fuse.{plan_axes}
use Rattle.strided.specs.Index.{index_in_plan}
use Rattle.strided.specs.declared.Purpose.{Purpose}
use Rattle.judge.specs.Visits.{Visit, visit_line}
use Rattle.judge.specs.Judge.{verdict, marks_of, marks_after, judge_rows, judge_refused}
use Rattle.judge.proofs.Along.{FirstAxis}
use Rattle.judge.specs.declared.Verdict.{Verdict}
use Rattle.judge.specs.declared.Verdict.TheVariants.{Accepted, Short, Double, Outside}

-- extents and runs, with the verdict and the marks
pub record Case : Type 0 where
  pub extents : List ℕ
  pub visits : List Visit
  pub says : Verdict
  pub marks : List ℕ

abbrev v : ℕ → ℕ → List ℕ → Visit
v axis len index = record { axis = axis; len = len; index = index }

abbrev case : List ℕ → List Visit → Verdict → List ℕ → Case
case es vs says marks = record { extents = es; visits = vs; says = says; marks = marks }

abbrev Right : List Case → Type 0
Right [] = Unit {0}
Right (c ∷ cs) = (verdict c.extents c.visits ≡ c.says) × (marks_after c.extents c.visits ≡ c.marks) × Right cs

abbrev three_by_two : List ℕ
three_by_two = 3 ∷ 2 ∷ []

abbrev pub figures : List Case
figures =
    -- rows along axis 0, columns along axis 1, both
    case three_by_two (v 0 3 (0 ∷ 1 ∷ []) ∷ v 0 3 (0 ∷ 0 ∷ []) ∷ []) Accepted (1 ∷ 1 ∷ 1 ∷ 1 ∷ 1 ∷ 1 ∷ [])
    ∷ case three_by_two (v 1 2 (0 ∷ 0 ∷ []) ∷ v 1 2 (1 ∷ 0 ∷ []) ∷ v 1 2 (2 ∷ 0 ∷ []) ∷ []) Accepted (1 ∷ 1 ∷ 1 ∷ 1 ∷ 1 ∷ 1 ∷ [])
    ∷ case three_by_two (v 1 2 (2 ∷ 0 ∷ []) ∷ v 0 2 (0 ∷ 0 ∷ []) ∷ v 0 2 (0 ∷ 1 ∷ []) ∷ []) Accepted (1 ∷ 1 ∷ 1 ∷ 1 ∷ 1 ∷ 1 ∷ [])
    -- one column: axis 0 is quickest in the marks
    ∷ case three_by_two (v 1 2 (1 ∷ 0 ∷ []) ∷ []) Short (0 ∷ 1 ∷ 0 ∷ 0 ∷ 1 ∷ 0 ∷ [])
    ∷ case three_by_two [] Short (0 ∷ 0 ∷ 0 ∷ 0 ∷ 0 ∷ 0 ∷ [])
    -- double before short
    ∷ case three_by_two (v 0 3 (0 ∷ 0 ∷ []) ∷ v 1 2 (1 ∷ 0 ∷ []) ∷ []) Double (1 ∷ 1 ∷ 1 ∷ 0 ∷ 1 ∷ 0 ∷ [])
    -- outside before both, and no mark stays
    ∷ case three_by_two (v 0 3 (0 ∷ 0 ∷ []) ∷ v 0 3 (0 ∷ 0 ∷ []) ∷ v 0 2 (2 ∷ 1 ∷ []) ∷ []) Outside (0 ∷ 0 ∷ 0 ∷ 0 ∷ 0 ∷ 0 ∷ [])
    ∷ case three_by_two (v 1 1 (0 ∷ 2 ∷ []) ∷ []) Outside (0 ∷ 0 ∷ 0 ∷ 0 ∷ 0 ∷ 0 ∷ [])
    -- a zero extent: only the empty list is accepted
    ∷ case (3 ∷ 0 ∷ []) [] Accepted []
    ∷ case (3 ∷ 0 ∷ []) (v 0 1 (0 ∷ 0 ∷ []) ∷ []) Outside []
    ∷ []

pub figures-right : Right figures
unfolding verdict marks_of marks_after every some_of
figures-right =
    (refl, refl, (refl, refl, (refl, refl, (refl, refl, (refl, refl, (refl, refl, (refl, refl, (refl, refl, (refl, refl, (refl, refl, tt))))))))))

-- V,1,12,0,7
pub line_right : visit_line (v 1 12 (0 ∷ 7 ∷ [])) ≡ 86 ∷ 44 ∷ 49 ∷ 44 ∷ 49 ∷ 50 ∷ 44 ∷ 48 ∷ 44 ∷ 55 ∷ 10 ∷ []
unfolding digits_of
line_right = refl

-- the numbers of the rows, in the order in which they are asked, whatever the entry is called with
pub judge_rows_lem : (es : List ℕ) (room : ℕ) → numbers (judge_rows es room) ≡ 1 ∷ 5 ∷ 13 ∷ 23 ∷ []
judge_rows_lem es room = refl

-- 1 before 5 before 13 before 23
pub rows_right : (judge_refused (replicate 65 4294967296) 0 ≡ Some Rank) × (judge_refused (replicate 2 4294967296) 0 ≡ Some Total)
    × (judge_refused (65537 ∷ []) 0 ≡ Some TextTotal) × (judge_refused (65536 ∷ []) 65535 ≡ Some Visits) × (judge_refused [] 1 ≡ Some Visits)
    × (judge_refused (65536 ∷ []) 65536 ≡ None)
unfolding judge_refused
rows_right = (refl, refl, refl, refl, refl, refl)

-- two rows of three cells, apart from each other: axis 0 of the plan is axis 0. Five cells behind an axis of extent 1: it is axis 1. Packed rows: it
-- is neither
pub apart-first : (u : Purpose) → FirstAxis (3 ∷ 2 ∷ []) 1 (pos 1 ∷ pos 10 ∷ []) u 0
unfolding plan_axes fusing_order index_in_plan
apart-first u = record { there = omega arith; extent = refl; step = λ h. refl }

pub behind_one : (u : Purpose) → FirstAxis (1 ∷ 5 ∷ []) 1 (pos 1 ∷ pos 1 ∷ []) u 1
unfolding plan_axes fusing_order index_in_plan
behind_one u = record { there = omega arith; extent = refl; step = λ h. refl }

pub packed_none : (u : Purpose) (a : ℕ) → FirstAxis (3 ∷ 2 ∷ []) 1 (pos 1 ∷ pos 3 ∷ []) u a → ⊥
unfolding plan_axes fusing_order
packed_none u zero f = let e : ◌≡◌ {A = ℕ} 6 3 = f.extent in absurd (omega arith)
packed_none u (suc zero) f = let e : ◌≡◌ {A = ℕ} 6 2 = f.extent in absurd (omega arith)
packed_none u (suc (suc a)) f = absurd (omega (arith, f.there))
