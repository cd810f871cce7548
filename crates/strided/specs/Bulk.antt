-- Many steps in one call, for hosts that pay for every call: two lent slices get as many of the next blocks as they have room for. The blocks
-- are those that repeated steps hand out, and the state handed back is theirs. Document 01 does not name this entry; it adds nothing to what
-- a step is.
-- Assumes nothing.
use Rattle.std.specs.Prelude.{List, [], ◌∷◌, ◌++◌, map, ℕ, zero, suc, ◌/◌, min, length, take, drop, ℤ, Option, None, Some, Result, Ok, Err}
use Rattle.strided.specs.Base.{over}
use Rattle.strided.specs.Step.{stepped, left, handed_block, walk_after}
use Rattle.strided.specs.declared.Refusal.{Refusal}
use Rattle.strided.specs.declared.Plan.{Plan}
use Rattle.strided.specs.declared.Walk.{Walk}
use Rattle.strided.specs.declared.Block.{Block}
use Rattle.strided.specs.declared.Stepped.{Stepped}
use Rattle.strided.specs.declared.Several.{Several}

-- a step's block in front of the later ones; a step that hands out none is the last
abbrev pub handing : Option Block → List Block → List Block
handing (Some b) later = b ∷ later
handing None later = []

-- the next n blocks, or those that are left: each step is handed the state that the last one left
abbrev pub next_blocks : ℕ → Plan → Walk → List Block
next_blocks zero p w = []
next_blocks (suc n) p w = handing (handed_block (stepped p w)) (next_blocks n p (left (stepped p w) w))

-- ---- the layout of a record: block j's length stands at place j of the lengths, its offset of operand k at place j * operands + k of the offsets

abbrev pub lengths_of : List Block → List ℕ
lengths_of bs = map (λ b. b.length) bs

abbrev pub offsets_of : ℕ → List Block → List ℤ
offsets_of operands bs = over bs (λ b. take operands b.offsets)

-- how many blocks two slices of so many places have room for
abbrev pub room_for : ℕ → ℕ → ℕ → ℕ
room_for operands lengths offsets = min lengths (offsets / operands)

-- a lent slice afterwards: the first places are written, every other stays
abbrev pub laid_on : {A : Type 0} → List A → List A → List A
laid_on xs old = xs ++ drop (length xs) old

-- ---- the entry

-- n, where there is a block; none where the walk has ended
abbrev pub written : Option Block → ℕ → Option ℕ
written (Some b) n = Some n
written None n = None

-- refused or ended as one step at the state is
abbrev pub several_by : Result Stepped Refusal → ℕ → Walk → Result Several Refusal
several_by (Ok s) n after = Ok (record { blocks = written s.block n; walk = after })
several_by (Err r) n after = Err r

-- how many blocks were written, and the state after so many steps
abbrev pub several_of : Plan → Walk → List Block → Result Several Refusal
several_of p w bs = several_by (stepped p w) (length bs) (walk_after p (length bs) w)

-- the state to hand to the next call: the one that is returned, or, if the call is refused, the one it was handed
abbrev pub left_many : Result Several Refusal → Walk → Walk
left_many (Ok s) lent = s.walk
left_many (Err r) lent = lent

-- what is returned, and the two slices afterwards
pub record SteppedMany : Type 0 where
  pub several : Result Several Refusal
  pub lengths : List ℕ
  pub offsets : List ℤ

abbrev pub many_of : Result Several Refusal → List ℕ → List ℤ → SteppedMany
many_of several lengths offsets = record { several = several; lengths = lengths; offsets = offsets }

-- MANY STEPS: on "ended" and on a refusal there is no block, so nothing is written
unfoldable pub stepped_many : Plan → Walk → List ℕ → List ℤ → SteppedMany
stepped_many p w lengths offsets =
    let bs : List Block = next_blocks (room_for p.operands (length lengths) (length offsets)) p w in
    many_of (several_of p w bs) (laid_on (lengths_of bs) lengths) (laid_on (offsets_of p.operands bs) offsets)
