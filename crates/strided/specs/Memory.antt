-- What a C function is lent, hands out and keeps: the values of the other files as numbers and arrays, the one signed number that is answered,
-- and what lent memory holds afterwards. 0 or more is answered where the call is served; where it is refused, the refusal's number negated,
-- and then every lent byte is as it was: "A refusal carries its number and nothing else." Document 01 leaves the rest of this form free.
-- Assumes nothing.
use Rattle.std.specs.Prelude.{◌≡◌, Bool, cond, not, List, [], ◌∷◌, ℕ, eqb, ℤ, pos, get_or, Option, None, Some, is_some, Ok, Err, Result}
use Rattle.strided.specs.Refusals.{negated}
use Rattle.strided.specs.Bulk.{SteppedMany}
use Rattle.strided.specs.Mark.{mark_number}
use Rattle.strided.specs.Text.{Listing, Lists}
use Rattle.strided.specs.declared.Purpose.{Purpose}
use Rattle.strided.specs.declared.Purpose.TheVariants.{Pointwise, PointwiseInto, Fold}
use Rattle.strided.specs.declared.Plan.{Plan}
use Rattle.strided.specs.declared.Told.{Told}
use Rattle.strided.specs.declared.Walk.{Walk}
use Rattle.strided.specs.declared.Block.{Block}
use Rattle.strided.specs.declared.Stepped.{Stepped}
use Rattle.strided.specs.declared.Several.{Several}
use Rattle.strided.specs.declared.Mark.{Mark}
use Rattle.strided.specs.declared.Refusal.{Refusal}

-- ---- what numbers and arrays tell

-- a purpose is two numbers: 0 is pointwise with no chosen operand, 1 pointwise into the chosen one, and any other number a fold
abbrev pub purpose_of : ℕ → ℕ → Purpose
purpose_of kind chosen = cond (eqb kind 0) Pointwise (cond (eqb kind 1) (PointwiseInto chosen) (Fold chosen))

-- a flag is 1 for yes and 0 for no; read back, any number but 0 is yes
abbrev pub flag : Bool → ℕ
flag b = cond b 1 0

abbrev pub is_set : ℕ → Bool
is_set n = not (eqb n 0)

-- a plan and a walk out of their parts
abbrev pub plan_of : ℕ → ℕ → List ℕ → List ℕ → List ℤ → Plan
plan_of rank operands e b s = record { rank = rank; operands = operands; extents = e; blocks = b; strides = s }

abbrev pub walk_of : Bool → List ℕ → List ℤ → Walk
walk_of ended c o = record { ended = ended; counters = c; offsets = o }

-- ---- values in lent memory: a number has an array of one place

pub record PlanMemory : Type 0 where
  pub rank : List ℕ
  pub operands : List ℕ
  pub extents : List ℕ
  pub blocks : List ℕ
  pub strides : List ℤ

-- out of its parts, as a contract names them
abbrev pub plan_at : List ℕ → List ℕ → List ℕ → List ℕ → List ℤ → PlanMemory
plan_at rank operands e b s = record { rank = rank; operands = operands; extents = e; blocks = b; strides = s }

abbrev pub plan_memory : Plan → PlanMemory
plan_memory p = record { rank = p.rank ∷ []; operands = p.operands ∷ []; extents = p.extents; blocks = p.blocks; strides = p.strides }

-- an index: its count and its places
pub record IndexMemory : Type 0 where
  pub count : List ℕ
  pub index : List ℕ

abbrev pub index_at : List ℕ → List ℕ → IndexMemory
index_at count index = record { count = count; index = index }

abbrev pub index_memory : Told → IndexMemory
index_memory t = record { count = t.count ∷ []; index = t.index }

-- a walk's state, and the state that such memory tells
pub record WalkMemory : Type 0 where
  pub ended : List ℕ
  pub counters : List ℕ
  pub offsets : List ℤ

abbrev pub walk_at : List ℕ → List ℕ → List ℤ → WalkMemory
walk_at ended c o = record { ended = ended; counters = c; offsets = o }

abbrev pub walk_memory : Walk → WalkMemory
walk_memory w = record { ended = flag w.ended ∷ []; counters = w.counters; offsets = w.offsets }

abbrev pub walk_in : WalkMemory → Walk
walk_in m = record { ended = is_set (get_or m.ended 0 0); counters = m.counters; offsets = m.offsets }

-- a step: the state, and the block: the plan index of its first cell, its length, and for each operand the first offset and the stride of
-- axis 0
pub record StepMemory : Type 0 where
  pub walk : WalkMemory
  pub counters : List ℕ
  pub length : List ℕ
  pub offsets : List ℤ
  pub strides : List ℤ

abbrev pub step_at : WalkMemory → List ℕ → List ℕ → List ℤ → List ℤ → StepMemory
step_at walk counters length offsets strides =
    record { walk = walk; counters = counters; length = length; offsets = offsets; strides = strides }

abbrev pub step_memory : Walk → Block → StepMemory
step_memory w b =
    record { walk = walk_memory w; counters = b.counters; length = b.length ∷ []; offsets = b.offsets; strides = b.strides }

-- many steps: the state, and the two slices
pub record ManyMemory : Type 0 where
  pub walk : WalkMemory
  pub lengths : List ℕ
  pub offsets : List ℤ

abbrev pub many_at : WalkMemory → List ℕ → List ℤ → ManyMemory
many_at walk lengths offsets = record { walk = walk; lengths = lengths; offsets = offsets }

abbrev pub many_memory : Walk → SteppedMany → ManyMemory
many_memory w m = record { walk = walk_memory w; lengths = m.lengths; offsets = m.offsets }

-- ---- an answer and its lent memory

-- the number of what is handed out, or the refusal's negated
abbrev pub code_of : {A : Type 0} → (A → ℤ) → Result A Refusal → ℤ
code_of code (Ok value) = code value
code_of code (Err r) = negated r

-- memory that held `old`: the value handed out, as it lies there, or what it held
abbrev pub kept : {A M : Type 0} → (A → M) → Result A Refusal → M → M
kept laid (Ok value) old = laid value
kept laid (Err r) old = old

-- whether something is handed out, without what it is
abbrev pub whether : {A : Type 0} → Result A Refusal → Result (Unit {0}) Refusal
whether (Ok value) = Ok tt
whether (Err r) = Err r

-- the function answers r, and lent memory that held `old` holds `new`
pub record Handed {A M : Type 0} (laid : A → M) (answer : Result A Refusal) (old new : M) (r : ℤ) : Type 0 where
  pub code : r ≡ code_of (λ value. pos 0) answer
  pub memory : new ≡ kept laid answer old

-- of a plan, of an index, of a walk's beginning
abbrev pub Plans : Result Plan Refusal → PlanMemory → PlanMemory → ℤ → Type 0
Plans p old new r = Handed plan_memory p old new r

abbrev pub Tells : Result Told Refusal → IndexMemory → IndexMemory → ℤ → Type 0
Tells t old new r = Handed index_memory t old new r

abbrev pub Begins : Result Walk Refusal → WalkMemory → WalkMemory → ℤ → Type 0
Begins b old new r = Handed walk_memory b old new r

-- the repeat mark is 0 for no, 1 for yes, 2 for undecided
abbrev pub mark_code : Result Mark Refusal → ℤ
mark_code m = code_of (λ mark. pos (mark_number mark)) m

-- ---- a step, and many

-- whether a step hands out a block
abbrev pub some_block : Result Stepped Refusal → Result Bool Refusal
some_block (Ok s) = Ok (is_some s.block)
some_block (Err r) = Err r

-- 1 for a block, 0 for the end
abbrev pub step_code : Result Bool Refusal → ℤ
step_code answer = code_of (λ block. pos (flag block)) answer

-- memory that held `old`: the value, as it lies there; at the end, where there is none, it stays as it was, as on a refusal
abbrev pub kept_step : {A M : Type 0} → (A → M) → Option A → M → M
kept_step laid None old = old
kept_step laid (Some value) old = laid value

abbrev pub step_leaves : Result Stepped Refusal → StepMemory → StepMemory
step_leaves (Ok s) old = kept_step (step_memory s.walk) s.block old
step_leaves (Err r) old = old

pub record Steps (s : Result Stepped Refusal) (old new : StepMemory) (r : ℤ) : Type 0 where
  pub code : r ≡ step_code (some_block s)
  pub memory : new ≡ step_leaves s old

-- how many blocks were written, and 0 for the end
abbrev pub many_count : Option ℕ → ℕ
many_count None = 0
many_count (Some n) = n

abbrev pub many_code : Result Several Refusal → ℤ
many_code answer = code_of (λ s. pos (many_count s.blocks)) answer

abbrev pub many_leaves : Result Several Refusal → SteppedMany → ManyMemory → ManyMemory
many_leaves (Ok s) m old = kept_step (λ n. many_memory s.walk m) s.blocks old
many_leaves (Err r) m old = old

pub record StepsMany (m : SteppedMany) (old new : ManyMemory) (r : ℤ) : Type 0 where
  pub code : r ≡ many_code m.several
  pub memory : new ≡ many_leaves m.several m old

-- ---- a listing

-- "gets a signed 64-bit number: the output's length, or the refusal's number negated", and the lent bytes are the listing's
pub record Fills (l : Listing) (new : List ℕ) (r : ℤ) : Type 0 where
  pub code : r ≡ code_of pos l.answer
  pub memory : new ≡ l.room

-- the text entry: there is a listing, which the text and the lent bytes fix
pub record ListsMemory (text old new : List ℕ) (r : ℤ) : Type 0 where
  pub listing : Listing
  pub lists : Lists text old listing
  pub fills : Fills listing new r
