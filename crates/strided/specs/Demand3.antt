-- DEMAND 3, stated: the walk meets every index of the original layout exactly once. It is one claim on a whole list of steps, over the
-- definitions that the contracts of planning, beginning, step and index finding cite. Crate laws proves it for every list of steps.
-- Assumes nothing.
use Rattle.std.specs.Prelude.{◌≡◌, ◌↔◌, ◌⊎◌, List, [], ◌∷◌, ℕ, zero, suc, ◌<◌, length, get_or, take, ℤ, pos, ◌+ℤ◌, ◌-ℤ◌, ◌*ℤ◌, None, Some, Result, Ok}
use Rattle.strided.specs.Base.{padded, nth}
use Rattle.strided.specs.Layout.{NoZero, Within, dot, stride_row}
use Rattle.strided.specs.Index.{index_in_plan, told_original, told}
use Rattle.strided.specs.Walk.{block, blocks_of, cell_at, run_strides}
use Rattle.strided.specs.Plan.{planned}
use Rattle.strided.specs.Begin.{plan_rows, begun_at}
use Rattle.strided.specs.Step.{plan_cut_axes, stepped, left, handed_block}
use Rattle.strided.specs.declared.Machine.{Machine}
use Rattle.strided.specs.declared.Purpose.{Purpose}
use Rattle.strided.specs.declared.Refusal.{Refusal}
use Rattle.strided.specs.declared.Plan.{Plan}
use Rattle.strided.specs.declared.Walk.{Walk}
use Rattle.strided.specs.declared.Block.{Block}
use Rattle.strided.specs.declared.Stepped.{Stepped}

-- "its plan .. with each block size left or replaced by any number"
abbrev pub replaced : Plan → List ℕ → Plan
replaced p bs = record { rank = p.rank; operands = p.operands; extents = p.extents; blocks = bs; strides = p.strides }

-- "hand each step that plan and the state last returned": n steps from the state w
abbrev pub steps_from : Plan → ℕ → Walk → List (Result Stepped Refusal)
steps_from p zero w = []
steps_from p (suc n) w = stepped p w ∷ steps_from p n (left (stepped p w) w)

-- the step s hands out the block b
abbrev pub Hands : Result Stepped Refusal → Block → Type 0
Hands s b = handed_block s ≡ Some b

-- it answers "ended" and returns the state w
abbrev pub Ends : Result Stepped Refusal → Walk → Type 0
Ends s w = s ≡ Ok (record { block = None; walk = w })

-- the layout, its plan, and the list of steps
module _ (es sizes : List ℕ) (ss : List ℤ) (u : Purpose) (p : Plan) (steps : List (Result Stepped Refusal)) where
  -- "A place is a step that hands out a block, with a k below that block's length": step m of the list hands out b
  pub record Place (m k : ℕ) (b : Block) : Type 0 where
    pub step : Result Stepped Refusal
    pub there : nth steps m ≡ Some step
    pub hands : Hands step b
    pub below : k < b.length

  -- the plan index of the place's cell, as counters: "cell k of the block has k more on axis 0"
  abbrev pub cell_of : ℕ → Block → List ℕ
  cell_of k b = cell_at (take p.rank b.counters) k

  -- "It meets the original index whose plan index is that of cell k"
  pub record Meets (m k : ℕ) (x : List ℕ) : Type 0 where
    pub by : Block
    pub place : Place m k by
    pub inside : Within es x
    pub index : index_in_plan es (length sizes) ss u x ≡ cell_of k by

  pub record Demand3 (starts : List ℤ) : Type 0 where
    -- "no step is refused"
    pub taken : (m : ℕ) (s : Result Stepped Refusal) → nth steps m ≡ Some s → ((b : Block) × Hands s b) ⊎ ((w : Walk) × Ends s w)
    -- "a step answers "ended" exactly when every index of the original layout was met before it"
    pub ends : (m : ℕ) (s : Result Stepped Refusal) → nth steps m ≡ Some s
        → ((w : Walk) × Ends s w) ↔ ((x : List ℕ) → Within es x → (i : ℕ) × (k : ℕ) × (i < m) × Meets i k x)
    -- "every other step hands out that plan's next block in document 01's order, of length 1 or more"
    pub order : (m : ℕ) (s : Result Stepped Refusal) (b : Block) → nth steps m ≡ Some s → Hands s b
        → (c : List ℕ) × (nth (blocks_of (plan_cut_axes p)) m ≡ Some (block c b.length)) × (b.counters ≡ padded 64 0 c)
        × (b.strides ≡ padded 8 (pos 0) (run_strides (plan_cut_axes p) (plan_rows p))) × (0 < b.length)
    -- "Each place meets one such index"
    pub meets : (m k : ℕ) (b : Block) → Place m k b → (x : List ℕ) × Meets m k x × ((y : List ℕ) → Meets m k y → y ≡ x)
    -- "and no index is met at two places"
    pub once : (m k i j : ℕ) (x : List ℕ) → Meets m k x → Meets i j x → (m ≡ i) × (k ≡ j)
    -- "At each place the index told is the one met"
    pub tells : (m k : ℕ) (x : List ℕ) (q : Meets m k x)
        → told_original es sizes ss u (cell_of k q.by) ≡ Ok (told x)
    -- "and each operand's offset less its start is the sum of index times original stride"; "its offsets are the block's plus k times the strides"
    pub offsets : (m k : ℕ) (x : List ℕ) (q : Meets m k x) (j : ℕ) → j < length sizes
        → get_or q.by.offsets j (pos 0) +ℤ pos k *ℤ get_or q.by.strides j (pos 0) -ℤ get_or starts j (pos 0) ≡ dot x (stride_row ss (length es) j)
    -- "In the state that "ended" returns every offset is its start again."
    pub back : (m : ℕ) (s : Result Stepped Refusal) (w : Walk) → nth steps m ≡ Some s → Ends s w → w.offsets ≡ padded 8 (pos 0) starts

-- THE STATEMENT: for every machine record and every layout without a zero extent that planning does not refuse, either purpose, its plan with
-- each block size left or replaced by any number, every list of starts that the beginning does not refuse, and every number of steps
abbrev pub Statement : Type 0
Statement =
    (mc : Machine) (es sizes : List ℕ) (ss : List ℤ) (u : Purpose) → NoZero es → (p : Plan) → planned mc es sizes ss u ≡ Ok p
    → (bs : List ℕ) (starts : List ℤ) (w : Walk) → begun_at (replaced p bs) starts ≡ Ok w
    → (n : ℕ) → Demand3 es sizes ss u (replaced p bs) (steps_from (replaced p bs) n w) starts
