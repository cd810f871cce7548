-- A visit and the two views in lent memory: what is answered, and what a refusal and an ended walk keep, is as strided's Memory has it for a step.
-- Assumes nothing.
use Rattle.std.specs.Prelude.{◌≡◌, Bool, List, [], ◌∷◌, ℕ, ℤ, is_some, Result, Ok, Err}
use Rattle.strided.specs.Memory.{IndexMemory, index_memory, StepMemory, step_memory, step_code, kept_step}
use Rattle.strided.specs.declared.Refusal.{Refusal}
use Rattle.strided.specs.declared.Walk.{Walk}
use Rattle.strided.specs.declared.Block.{Block}
use Rattle.views.specs.declared.Visit.{Visit}
use Rattle.views.specs.declared.Visited.{Visited}
use Rattle.views.specs.declared.Student.{Student}

-- ---- a visit

-- the walk's state and the block, as a step has them; the number; and the index of the first cell
pub record VisitMemory : Type 0 where
  pub step : StepMemory
  pub number : List ℕ
  pub first : IndexMemory

abbrev pub visit_at : StepMemory → List ℕ → IndexMemory → VisitMemory
visit_at step number first = record { step = step; number = number; first = first }

abbrev pub visit_memory : Walk → Visit → VisitMemory
visit_memory w v = record { step = step_memory w v.block; number = v.number ∷ []; first = index_memory v.first }

-- memory that held `old`: the record and the state, or, at the end as on a refusal, what it held
abbrev pub visit_leaves : Result Visited Refusal → VisitMemory → VisitMemory
visit_leaves (Ok v) old = kept_step (visit_memory v.walk) v.visit old
visit_leaves (Err r) old = old

-- whether a visit hands out a record
abbrev pub some_visit : Result Visited Refusal → Result Bool Refusal
some_visit (Ok v) = Ok (is_some v.visit)
some_visit (Err r) = Err r

-- the answer is r, and lent memory that held `old` holds `new`
pub record VisitLeaves (v : Result Visited Refusal) (old new : VisitMemory) (r : Result Bool Refusal) : Type 0 where
  pub answer : r ≡ some_visit v
  pub memory : new ≡ visit_leaves v old

-- the same as a C function answers it: 1 for a block, 0 for the end
pub record VisitsMemory (v : Result Visited Refusal) (old new : VisitMemory) (r : ℤ) : Type 0 where
  pub code : r ≡ step_code (some_visit v)
  pub memory : new ≡ visit_leaves v old

-- ---- the views

-- a record out of its parts
abbrev pub record_of : ℕ → List ℕ → ℕ → List ℤ → List ℤ → ℕ → List ℕ → Visit
record_of number counters length offsets strides count index =
    record {
      number = number;
      block = record { counters = counters; length = length; offsets = offsets; strides = strides };
      first = record { count = count; index = index };
    }

pub record EngineerMemory : Type 0 where
  pub counters : List ℕ
  pub length : List ℕ
  pub offsets : List ℤ
  pub strides : List ℤ

abbrev pub engineer_at : List ℕ → List ℕ → List ℤ → List ℤ → EngineerMemory
engineer_at counters length offsets strides = record { counters = counters; length = length; offsets = offsets; strides = strides }

abbrev pub engineer_memory : Block → EngineerMemory
engineer_memory b = record { counters = b.counters; length = b.length ∷ []; offsets = b.offsets; strides = b.strides }

pub record StudentMemory : Type 0 where
  pub number : List ℕ
  pub length : List ℕ
  pub count : List ℕ
  pub index : List ℕ

abbrev pub student_at : List ℕ → List ℕ → List ℕ → List ℕ → StudentMemory
student_at number length count index = record { number = number; length = length; count = count; index = index }

abbrev pub student_memory : Student → StudentMemory
student_memory s = record { number = s.number ∷ []; length = s.length ∷ []; count = s.first.count ∷ []; index = s.first.index }
