-- Figures: the numbers of the rows in their order, and layouts that an operand joins or leaves, by computation on the definitions.
-- Assumes nothing.
use Rattle.std.specs.Prelude.{◌≡◌, refl, List, [], ◌∷◌, ℕ, ℤ, pos, Option, None, Some}
use Rattle.strided.specs.Base.{some_of}
use Rattle.strided.specs.Refusals.{refused_by, served_unless, answered, planning_rows, planning_refused}
use Rattle.strided.specs.Memory.{whether}
use Rattle.strided.specs.Rows.{numbers}
use Rattle.strided.specs.declared.Machine.{Machine}
use Rattle.strided.specs.declared.Purpose.{Purpose}
use Rattle.strided.specs.declared.Purpose.TheVariants.{Pointwise, PointwiseInto, Fold}
use Rattle.strided.specs.declared.Refusal.{Refusal}
use Rattle.strided.specs.declared.Refusal.TheVariants.{Ninth, Leaving, StrideCount, Reach}
use Rattle.session.specs.declared.Session.{Session}
use Rattle.session.specs.Session.{Given, given, fresh_of, with_operand, without_operand, row21, new_rows, join_rows, leave_rows, begun}

-- the numbers of the rows, in the order in which they are asked, whatever the entry is called with. A beginning has those of planning
answer_of : (o : Option Refusal) (t : Session) → whether (served_unless o t) ≡ answered o
answer_of None t = refl
answer_of (Some r) t = refl

module _ (mc : Machine) (es sizes : List ℕ) (ss : List ℤ) (u : Purpose) where
  pub begin_planning : whether (begun (given mc es sizes ss u)) ≡ answered (refused_by (planning_rows mc es sizes ss u))
  unfolding begun planning_refused
  begin_planning = answer_of (refused_by (planning_rows mc es sizes ss u)) (fresh_of (given mc es sizes ss u))

  pub begin-rows : numbers (planning_rows mc es sizes ss u) ≡ 1 ∷ 2 ∷ 3 ∷ 4 ∷ 24 ∷ 5 ∷ 6 ∷ []
  begin-rows = refl

pub join_rows_lem : (s : Session) (ts : List ℤ) → numbers (join_rows s ts) ≡ 10 ∷ 20 ∷ 3 ∷ 6 ∷ []
join_rows_lem s ts = refl

pub leave_rows_lem : (s : Session) (k : ℕ) → numbers (leave_rows s k) ≡ 10 ∷ 21 ∷ []
leave_rows_lem s k = refl

-- 20 before 3 before 6
pub new_right : (refused_by (new_rows 1 8 (2 ∷ []) []) ≡ Some Ninth) × (refused_by (new_rows 1 7 (2 ∷ []) []) ≡ Some StrideCount)
    × (refused_by (new_rows 1 7 (2 ∷ []) (pos 9223372036854775808 ∷ [])) ≡ Some Reach)
    × (refused_by (new_rows 1 7 (2 ∷ []) (pos 9223372036854775807 ∷ [])) ≡ None)
unfolding some_of
new_right = (refl, refl, refl, refl)

-- the only one left, one that is not there, and the last of two
pub leaving_right : (refused_by (row21 1 0 ∷ []) ≡ Some Leaving) × (refused_by (row21 2 2 ∷ []) ≡ Some Leaving) × (refused_by (row21 2 1 ∷ []) ≡ None)
leaving_right = (refl, refl, refl)

-- a layout of three operands on two axes
abbrev three : Machine → Purpose → Given
three mc u = given mc (4 ∷ 5 ∷ []) (1 ∷ 2 ∷ 8 ∷ []) (pos 1 ∷ pos 4 ∷ pos 5 ∷ pos 1 ∷ pos 0 ∷ pos 7 ∷ []) u

-- the same with operands 0 and 2 alone
abbrev two : Machine → Purpose → Given
two mc u = given mc (4 ∷ 5 ∷ []) (1 ∷ 8 ∷ []) (pos 1 ∷ pos 4 ∷ pos 0 ∷ pos 7 ∷ []) u

module _ (mc : Machine) where
  -- a new operand is the last
  pub join_right : (u : Purpose) → with_operand (given mc (4 ∷ 5 ∷ []) (1 ∷ 2 ∷ []) (pos 1 ∷ pos 4 ∷ pos 5 ∷ pos 1 ∷ []) u) 8 (pos 0 ∷ pos 7 ∷ []) ≡ three mc u
  join_right u = refl

  -- operand 1 leaves. The chosen operand 2 is then operand 1, the chosen operand 0 stays
  pub leave_moves : (without_operand (three mc (PointwiseInto 2)) 1 ≡ two mc (PointwiseInto 1)) × (without_operand (three mc (Fold 2)) 1 ≡ two mc (Fold 1))
      × (without_operand (three mc (PointwiseInto 0)) 1 ≡ two mc (PointwiseInto 0)) × (without_operand (three mc Pointwise) 1 ≡ two mc Pointwise)
  leave_moves = (refl, refl, refl, refl)

  -- "Dropping the chosen one leaves none for P, operand 0 for F"
  pub leave_chosen : (without_operand (three mc (PointwiseInto 1)) 1 ≡ two mc Pointwise) × (without_operand (three mc (Fold 1)) 1 ≡ two mc (Fold 0))
  leave_chosen = (refl, refl)
