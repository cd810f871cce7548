-- What the functions of a step ask and leave.
-- Assumes nothing.
use Rattle.std.specs.Prelude.{◌≡◌, Bool, true, false, length, None, Result, Ok, Err}
use Rattle.strided.specs.Refusals.{refused_by}
use Rattle.strided.specs.Step.{step_rows, stepped, Reached}
use Rattle.strided.specs.Memory.{StepMemory, some_block, step_leaves}
use Rattle.strided.specs.declared.Refusal.{Refusal}
use Rattle.strided.specs.declared.Plan.{Plan}
use Rattle.strided.specs.declared.Walk.{Walk}
use Rattle.strided.specs.declared.Stepped.{Stepped}

-- a step after the last block
abbrev pub over_step : Walk → Result Stepped Refusal
over_step w = Ok (record { block = None; walk = w })

-- a plan and a state as values have them, that rows 1, 2 and 10 let through
pub record Taken (p : Plan) (w : Walk) : Type 0 where
  pub extents-all : length p.extents ≡ 64
  pub blocks_all : length p.blocks ≡ 64
  pub strides_all : length p.strides ≡ 512
  pub counters-all : length w.counters ≡ 64
  pub offsets_all : length w.offsets ≡ 8
  pub rows : refused_by (step_rows p) ≡ None
  pub reached : Reached p w

-- the answer is the step's: what is refused and what has ended is known with it, and of a block that the state is taken
abbrev pub Answers : Plan → Walk → Result Bool Refusal → Type 0
Answers p w (Ok true) = Taken p w × (w.ended ≡ false)
Answers p w (Ok false) = over_step w ≡ stepped p w
Answers p w (Err r) = Err r ≡ stepped p w

-- a step in lent memory says whether it hands out a block, and leaves what the step leaves
pub record SteppedInto (s : Result Stepped Refusal) (old new : StepMemory) (answer : Result Bool Refusal) : Type 0 where
  pub said : answer ≡ some_block s
  pub memory : new ≡ step_leaves s old
