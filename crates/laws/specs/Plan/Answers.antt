-- PLANNING'S TWO ANSWERS: the plan of the layout if rows 1 to 6 and 24 pass, and else the refusal. Assumes nothing.
use Rattle.std.specs.Prelude.{◌≡◌, List, ℕ, ℤ, Option, None, Some, Ok, Err}
use Rattle.std.proofs.Math.Path.{ap}
use Rattle.strided.specs.Memory.{whether}
use Rattle.strided.specs.Refusals.{answered, planning_refused, served_unless}
use Rattle.strided.specs.Plan.{planned, the_plan}
use Rattle.laws.specs.Refusals.Rows.{served_none, served_is, whether_is}
use Rattle.strided.specs.declared.Purpose.{Purpose}
use Rattle.strided.specs.declared.Refusal.{Refusal}
use Rattle.strided.specs.declared.Plan.{Plan}
use Rattle.strided.specs.declared.Machine.{Machine}

module _ (mc : Machine) (es sizes : List ℕ) (ss : List ℤ) (u : Purpose) where
  pub planned_served : planning_refused mc es sizes ss u ≡ None → planned mc es sizes ss u ≡ Ok (the_plan mc es sizes ss u)
  unfolding planned
  planned_served h = ap (λ (o : Option Refusal). served_unless o (the_plan mc es sizes ss u)) h

  pub planned-refused : (r : Refusal) → planning_refused mc es sizes ss u ≡ Some r → planned mc es sizes ss u ≡ Err r
  unfolding planned
  planned-refused r h = ap (λ (o : Option Refusal). served_unless o (the_plan mc es sizes ss u)) h

  pub not-refused : {p : Plan} → planned mc es sizes ss u ≡ Ok p → planning_refused mc es sizes ss u ≡ None
  unfolding planned
  not-refused h = served_none (planning_refused mc es sizes ss u) _ h

  -- and the plan handed out is the layout's
  pub planned_is : {p : Plan} → planned mc es sizes ss u ≡ Ok p → p ≡ the_plan mc es sizes ss u
  unfolding planned
  planned_is h = served_is (planning_refused mc es sizes ss u) _ h

  -- the answer tells what the layout is refused for
  pub planned_answer : whether (planned mc es sizes ss u) ≡ answered (planning_refused mc es sizes ss u)
  unfolding planned
  planned_answer = whether_is (planning_refused mc es sizes ss u) (the_plan mc es sizes ss u)
