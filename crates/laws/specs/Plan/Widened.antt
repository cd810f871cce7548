-- Ask 6, "Layouts that were answered keep their plans": planning as it was while row 7 was given, and that it differs from planning now only where
-- it refused with 7. Those layouts have a plan now. Assumes nothing.
use Rattle.std.specs.Prelude.{◌≡◌, refl, Bool, true, false, cond, List, ℕ, ◌+◌, ◌*◌, ℤ, length, get_or, Option, None, Some, Ok, Err, Result}
use Rattle.std.proofs.Common.{arith}
use Rattle.std.proofs.Math.Dec.{ltb}
use Rattle.strided.specs.Layout.{stride_row, reach, max_i}
use Rattle.strided.specs.Refusals.{number, some_operand, served_unless, planning_refused}
use Rattle.strided.specs.Plan.{the_plan, planned}
use Rattle.strided.specs.declared.Machine.{Machine}
use Rattle.strided.specs.declared.Purpose.{Purpose}
use Rattle.strided.specs.declared.Refusal.{Refusal}
use Rattle.strided.specs.declared.Refusal.TheVariants.{Rank, Operands, StrideCount, Chosen, Total, Reach, StartCount, Offsets, State, Index, Form, TextTotal, Room, Window, CopySizes, Buffer, Repeats, ByteStrides, Ninth, Leaving, Slice, Visits, Record}
use Rattle.strided.specs.declared.Plan.{Plan}

-- document 01's row 7, "size × (1 + reach) above 2^63 − 1"; it passes "if an extent is 0"
abbrev pub row7 : List ℕ → List ℕ → List ℤ → Option ℕ
row7 es sizes ss = cond (some_operand es (λ k. ltb max_i (get_or sizes k 0 * (1 + reach es (stride_row ss (length es) k)))) (length sizes)) (Some 7) None

-- what planning answers, with the refusal's number: it has no name for 7
abbrev pub numbered : {A : Type 0} → Result A Refusal → Result A ℕ
numbered (Ok value) = Ok value
numbered (Err r) = Err (number r)

-- the same, where a last row refuses what is served
abbrev pub last_row : {A : Type 0} → Option ℕ → Result A ℕ → Result A ℕ
last_row (Some n) (Ok value) = Err n
last_row (Some n) (Err m) = Err m
last_row None answer = answer

-- planning as it was: rows 1 to 4, 24, 5, 6, and 7 behind them
unfoldable pub planned_before : Machine → List ℕ → List ℕ → List ℤ → Purpose → Result Plan ℕ
planned_before mc es sizes ss u =
    last_row (row7 es sizes ss) (numbered (served_unless (planning_refused mc es sizes ss u) (the_plan mc es sizes ss u)))

-- "7 is given no longer", by any entry
pub no_seven : (r : Refusal) → number r ≡ 7 → ⊥
no_seven Rank h = absurd (omega arith)
no_seven Operands h = absurd (omega arith)
no_seven StrideCount h = absurd (omega arith)
no_seven Chosen h = absurd (omega arith)
no_seven Total h = absurd (omega arith)
no_seven Reach h = absurd (omega arith)
no_seven StartCount h = absurd (omega arith)
no_seven Offsets h = absurd (omega arith)
no_seven State h = absurd (omega arith)
no_seven Index h = absurd (omega arith)
no_seven Form h = absurd (omega arith)
no_seven TextTotal h = absurd (omega arith)
no_seven Room h = absurd (omega arith)
no_seven Window h = absurd (omega arith)
no_seven CopySizes h = absurd (omega arith)
no_seven Buffer h = absurd (omega arith)
no_seven Repeats h = absurd (omega arith)
no_seven ByteStrides h = absurd (omega arith)
no_seven Ninth h = absurd (omega arith)
no_seven Leaving h = absurd (omega arith)
no_seven Slice h = absurd (omega arith)
no_seven Visits h = absurd (omega arith)
no_seven Record h = absurd (omega arith)

module _ (mc : Machine) (es sizes : List ℕ) (ss : List ℤ) (u : Purpose) where
  -- where it did not refuse with 7, nothing has changed
  pub plans_kept : (planned_before mc es sizes ss u ≡ Err 7 → ⊥) → numbered (planned mc es sizes ss u) ≡ planned_before mc es sizes ss u
  unfolding planned planned_before
  plans_kept h = go (planning_refused mc es sizes ss u) (some_operand es (λ k. ltb max_i (get_or sizes k 0 * (1 + reach es (stride_row ss (length es) k)))) (length sizes)) h
    where
      p : Plan
      p = the_plan mc es sizes ss u

      go : (o : Option Refusal) (t : Bool) → (last_row (cond t (Some 7) None) (numbered (served_unless o p)) ≡ Err 7 → ⊥)
          → numbered (served_unless o p) ≡ last_row (cond t (Some 7) None) (numbered (served_unless o p))
      go (Some r) true f = refl
      go (Some r) false f = refl
      go None true f = absurd (f refl)
      go None false f = refl

  -- where it did, there is a plan
  pub widened : planned_before mc es sizes ss u ≡ Err 7 → (p : Plan) × (planned mc es sizes ss u ≡ Ok p)
  unfolding planned planned_before
  widened h = go (planning_refused mc es sizes ss u) (row7 es sizes ss) h
    where
      p : Plan
      p = the_plan mc es sizes ss u

      go : (o : Option Refusal) (q : Option ℕ) → last_row q (numbered (served_unless o p)) ≡ Err 7 → (p' : Plan) × (served_unless o p ≡ Ok p')
      go None q e = (p, refl)
      go (Some r) None e = let f : number r ≡ 7 = cc e in absurd (no_seven r f)
      go (Some r) (Some n) e = let f : number r ≡ 7 = cc e in absurd (no_seven r f)
