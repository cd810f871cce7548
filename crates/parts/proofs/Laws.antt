-- What an answer says of the lent memory, where it is known whether a row refuses. Assumes nothing.
use Rattle.std.specs.Prelude.{◌≡◌, refl, List, ℕ, ℤ, Option, None, Some, Err}
use Rattle.strided.specs.Refusals.{number, planning_refused}
use Rattle.strided.specs.Plan.{planned}
use Rattle.strided.specs.declared.Machine.{Machine}
use Rattle.strided.specs.declared.Purpose.{Purpose}
use Rattle.strided.specs.declared.Refusal.{Refusal}
use Rattle.laws.specs.Refusals.Rows.{refused_some}
use Rattle.parts.specs.Answers.{Part}

module _ {A : Type 0} where
  pub some-refused : (o : Option Refusal) {r : Refusal} {n : ℕ} {part old : A} → o ≡ Some r → n ≡ number r → Part o part old old n
  some-refused o h e = rw h (record { answer = e; memory = refl })

  pub none_served : (o : Option Refusal) {part old new : A} → o ≡ None → new ≡ part → Part o part old new 0
  none_served o h e = rw h (record { answer = refl; memory = e })

-- planning's refusal
pub plan_refused : (m : Machine) (es sizes : List ℕ) (ss : List ℤ) (u : Purpose) {r : Refusal} → planned m es sizes ss u ≡ Err r → planning_refused m es sizes ss u ≡ Some r
unfolding planned
plan_refused m es sizes ss u h = refused_some (planning_refused m es sizes ss u) _ h
