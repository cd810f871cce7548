-- "the least number wins, except that 12 comes first", "7 is given no longer; 13 then follows 6", and 24 comes "after 4": the numbers of each
-- entry's rows, in the order in which they are asked, whatever the entry is called with. So no two numbers and no two rows can change places.
-- Assumes nothing.
use Rattle.std.specs.Prelude.{◌≡◌, refl, List, [], ◌∷◌, ◌++◌, ℕ, ℤ}
use Rattle.strided.specs.Refusals.{Row, number, layout_rows, planning_rows, row11}
use Rattle.strided.specs.Begin.{begin_rows}
use Rattle.strided.specs.Step.{step_rows}
use Rattle.strided.specs.Mark.{mark_rows}
use Rattle.strided.specs.Text.{Parsed, layout_rows_of, output_rows}
use Rattle.strided.specs.declared.Machine.{Machine}
use Rattle.strided.specs.declared.Purpose.{Purpose}
use Rattle.strided.specs.declared.Plan.{Plan}
use Rattle.strided.specs.declared.Refusal.TheVariants.{State, Form}

abbrev pub numbers : List Row → List ℕ
numbers [] = []
numbers (r ∷ rs) = number r.refusal ∷ numbers rs

-- of a layout: planning, and index finding on the extents fs
module _ (es sizes : List ℕ) (ss : List ℤ) (u : Purpose) where
  pub planning_rows_lem : (mc : Machine) → numbers (planning_rows mc es sizes ss u) ≡ 1 ∷ 2 ∷ 3 ∷ 4 ∷ 24 ∷ 5 ∷ 6 ∷ []
  planning_rows_lem mc = refl

  pub index_rows : (fs x : List ℕ) → numbers (layout_rows es sizes ss u ++ (row11 fs x ∷ [])) ≡ 1 ∷ 2 ∷ 3 ∷ 4 ∷ 5 ∷ 6 ∷ 11 ∷ []
  index_rows fs x = refl

-- of a plan: a walk's beginning, and its steps
pub begin-rows : (p : Plan) (starts : List ℤ) → numbers (begin_rows p starts) ≡ 1 ∷ 2 ∷ 5 ∷ 6 ∷ 8 ∷ 9 ∷ []
begin-rows p starts = refl

pub step-rows : (p : Plan) → numbers (step_rows p) ++ (number State ∷ []) ≡ 1 ∷ 2 ∷ 10 ∷ []
step-rows p = refl

-- of an operand: the repeat mark
pub mark_rows_lem : (es : List ℕ) (ts : List ℤ) → numbers (mark_rows es ts) ≡ 1 ∷ 3 ∷ 5 ∷ 6 ∷ []
mark_rows_lem es ts = refl

-- of a text
pub text_rows : (p : Parsed) (room : ℕ) → number Form ∷ numbers (layout_rows_of p ++ output_rows p room) ≡ 12 ∷ 1 ∷ 2 ∷ 4 ∷ 5 ∷ 6 ∷ 13 ∷ 14 ∷ []
text_rows p room = refl
