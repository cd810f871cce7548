-- "Added: a walk hands out its counters ..": one step of a walk by value, the states that a begun walk reaches, and row 10.
-- Assumes nothing.
use Rattle.std.specs.Prelude.{◌≡◌, Bool, true, false, cond, ◌&&◌, not, List, [], ◌∷◌, ℕ, zero, suc, ◌%◌, ltb, eqb, length, take, drop, ℤ, pos, nat_abs, ◌+ℤ◌, ◌-ℤ◌, Option, None, Some, Result, Ok, Err}
use Rattle.strided.specs.Base.{padded}
use Rattle.strided.specs.Layout.{dot}
use Rattle.strided.specs.Refusals.{Row, refused_by, row1, row2, answers_unless}
use Rattle.strided.specs.Walk.{CutAxis, ax, cut_axes, length_at, next, zeros, run_strides}
use Rattle.strided.specs.Begin.{plan_extents, plan_blocks, plan_rows, begin_refused, begun_at}
use Rattle.strided.specs.declared.Refusal.{Refusal}
use Rattle.strided.specs.declared.Refusal.TheVariants.{State}
use Rattle.strided.specs.declared.Plan.{Plan}
use Rattle.strided.specs.declared.Walk.{Walk}
use Rattle.strided.specs.declared.Block.{Block}
use Rattle.strided.specs.declared.Stepped.{Stepped}

-- ---- the walk as a machine on lists

-- whether it runs, the counters of the next block, and an offset for each operand
pub record WalkState : Type 0 where
  pub running : Bool
  pub counters : List ℕ
  pub offsets : List ℤ

-- each operand's start with the sum of counter times stride, and the way back
abbrev pub offsets_from : List (List ℤ) → List ℤ → List ℕ → List ℤ
offsets_from [] zs c = []
offsets_from (ts ∷ tss) [] c = []
offsets_from (ts ∷ tss) (z ∷ zs) c = (z +ℤ dot c ts) ∷ offsets_from tss zs c

abbrev pub starts_from : List (List ℤ) → List ℤ → List ℕ → List ℤ
starts_from [] os c = []
starts_from (ts ∷ tss) [] c = []
starts_from (ts ∷ tss) (o ∷ os) c = (o -ℤ dot c ts) ∷ starts_from tss os c

-- the state of a walk that began at the starts zs: at the counters c, or ended with counters 0 and "every offset is its start again"
abbrev pub state_of : List CutAxis → List (List ℤ) → List ℤ → Option (List ℕ) → WalkState
state_of axs tss zs None = record { running = false; counters = zeros axs; offsets = zs }
state_of axs tss zs (Some c) = record { running = true; counters = c; offsets = offsets_from tss zs c }

-- what a step gives: row 10; or a block's counters, length, offsets and strides of axis 0, with the next state; or that the walk is over
pub data Step : Type 0 where
  refused : Step
  gave : List ℕ → ℕ → List ℤ → List ℤ → WalkState → Step
  over : WalkState → Step

-- ---- row 10, as a test (crate laws: it holds exactly at the states of `Reached` below)

abbrev pub insideb : List CutAxis → List ℕ → Bool
insideb [] [] = true
insideb [] (x ∷ xs) = false
insideb (ax e w ∷ axs) [] = false
insideb (ax e w ∷ axs) (x ∷ xs) = ltb x e && insideb axs xs

-- on axis 0 a block starts where a tile starts
abbrev pub on_startb : List CutAxis → List ℕ → Bool
on_startb [] c = true
on_startb (ax e w ∷ axs) [] = false
on_startb (ax e w ∷ axs) (s ∷ v) = eqb (s % w) 0

abbrev pub zerosb : List CutAxis → List ℕ → Bool
zerosb [] [] = true
zerosb [] (x ∷ xs) = false
zerosb (ax e w ∷ axs) [] = false
zerosb (ax e w ∷ axs) (x ∷ xs) = eqb x 0 && zerosb axs xs

-- `ok zs`: a walk may begin at the starts zs
abbrev pub reachable : List CutAxis → List (List ℤ) → (List ℤ → Bool) → WalkState → Bool
reachable axs tss ok s =
    cond s.running (insideb axs s.counters && on_startb axs s.counters) (zerosb axs s.counters)
    && (eqb (length s.offsets) (length tss) && ok (starts_from tss s.offsets s.counters))

-- ---- the step

abbrev pub step_running : List CutAxis → List (List ℤ) → List ℕ → List ℤ → Step
step_running axs tss c os = gave c (length_at axs c) os (run_strides axs tss) (state_of axs tss (starts_from tss os c) (next axs c))

-- "A step after the last block answers "ended" again, state unchanged."
abbrev pub step : List CutAxis → List (List ℤ) → (List ℤ → Bool) → WalkState → Step
step axs tss ok s = cond (reachable axs tss ok s) (cond s.running (step_running axs tss s.counters s.offsets) (over s)) refused

-- ---- the entry

-- the axes of a plan with their effective block sizes
abbrev pub plan_cut_axes : Plan → List CutAxis
plan_cut_axes p = cut_axes (plan_extents p) (plan_blocks p)

-- a walk's value as lists, and back
abbrev pub unpacked : Plan → Walk → WalkState
unpacked p w = record { running = not w.ended; counters = take p.rank w.counters; offsets = take p.operands w.offsets }

abbrev pub packed : WalkState → Walk
packed s = record { ended = not s.running; counters = padded 64 0 s.counters; offsets = padded 8 (pos 0) s.offsets }

-- "In plans, blocks and states handed out, array places behind the counts are 0", so a state with anything else there was not handed out
abbrev pub blank : List ℕ → Bool
blank [] = true
blank (x ∷ xs) = eqb x 0 && blank xs

abbrev pub blank_z : List ℤ → Bool
blank_z [] = true
blank_z (x ∷ xs) = eqb (nat_abs x) 0 && blank_z xs

abbrev pub tidy : Plan → Walk → Bool
tidy p w = blank (drop p.rank w.counters) && blank_z (drop p.operands w.offsets)

-- a walk of the plan may begin at these starts
abbrev pub is_none : Option Refusal → Bool
is_none None = true
is_none (Some r) = false

abbrev pub may_begin : Plan → List ℤ → Bool
may_begin p zs = is_none (begin_refused p zs)

-- a block's value out of its lists
abbrev pub packed_block : List ℕ → ℕ → List ℤ → List ℤ → Block
packed_block c n os ts = record { counters = padded 64 0 c; length = n; offsets = padded 8 (pos 0) os; strides = padded 8 (pos 0) ts }

-- a step's value out of what the machine gives
abbrev pub handed_out : Step → Result Stepped Refusal
handed_out refused = Err State
handed_out (over s) = Ok (record { block = None; walk = packed s })
handed_out (gave c n os ts s) = Ok (record { block = Some (packed_block c n os ts); walk = packed s })

abbrev pub step_rows : Plan → List Row
step_rows p = row1 p.rank ∷ row2 p.operands ∷ []

-- ONE STEP: rows 1 and 2 of the plan, then 10, "step on a state no begun walk reaches"
unfoldable pub stepped : Plan → Walk → Result Stepped Refusal
stepped p w =
    let taken : Result Stepped Refusal = handed_out (step (plan_cut_axes p) (plan_rows p) (may_begin p) (unpacked p w)) in
    answers_unless (refused_by (step_rows p)) (cond (tidy p w) taken (Err State))

-- "A lent step answers what one by value answers and leaves the state that one returns, or, if refused, the state it was lent."
abbrev pub left : Result Stepped Refusal → Walk → Walk
left (Ok s) lent = s.walk
left (Err r) lent = lent

-- the block that a step hands out, if it hands one out
abbrev pub handed_block : Result Stepped Refusal → Option Block
handed_block (Ok s) = s.block
handed_block (Err r) = None

-- ---- the states that a begun walk reaches

-- the state after n steps, each handed the state that the last one left
abbrev pub walk_after : Plan → ℕ → Walk → Walk
walk_after p zero w = w
walk_after p (suc n) w = walk_after p n (left (stepped p w) w)

-- some beginning that is not refused, and some number of steps, lead to w
pub record Reached (p : Plan) (w : Walk) : Type 0 where
  pub starts : List ℤ
  pub first : Walk
  pub begins : begun_at p starts ≡ Ok first
  pub steps : ℕ
  pub comes : w ≡ walk_after p steps first
