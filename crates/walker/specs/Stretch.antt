-- A STRETCH: blocks of one length that follow each other, each operand moving by the same number from one to the next; and the stretches of
-- a walk, as lists.
-- Assumes nothing.
use Rattle.std.specs.Prelude.{◌≡◌, cond, List, [], ◌∷◌, map, ℕ, ◌≤◌, ◌<◌, min, ℤ, pos, ◌+ℤ◌, ◌*ℤ◌, length, get_or, take, Option, None, Some}
use Rattle.std.specs.Int.{w64}
use Rattle.std.proofs.Common.{SFits}
use Rattle.strided.specs.Base.{run}
use Rattle.strided.specs.Step.{stepped, handed_block, walk_after}
use Rattle.strided.specs.declared.Plan.{Plan}
use Rattle.strided.specs.declared.Walk.{Walk}
use Rattle.strided.specs.declared.Block.{Block}
use Rattle.laws.specs.Base.Sums.{sum}
use Rattle.laws.specs.Walk.Placed.{Placed}
use Rattle.advance.specs.Axis.{widths}
use Rattle.walker.specs.declared.way.Way.{Way}
use Rattle.walker.specs.declared.Next.{Next}
use Rattle.walker.specs.Way.{left_of, moves_of}

-- the first block's offsets, the length of each block, how many blocks, and each operand's move from block to block
pub record Stretch : Type 0 where
  pub offsets : List ℤ
  pub length : ℕ
  pub count : ℕ
  pub moves : List ℤ

-- each offset after j moves
abbrev pub moved_on : ℕ → List ℤ → List ℤ → List ℤ
moved_on j [] ds = []
moved_on j (o ∷ os) [] = []
moved_on j (o ∷ os) (d ∷ ds) = (o +ℤ pos j *ℤ d) ∷ moved_on j os ds

-- block j of a stretch
abbrev pub block_in : Stretch → ℕ → Placed
block_in s j = record { offsets = moved_on j s.offsets s.moves; length = s.length }

-- THE BLOCKS OF A STRETCH, in order
abbrev pub laid : Stretch → List Placed
laid s = map (block_in s) (run 0 s.count)

-- the stretch that a call told: the first block's offsets and the moves stand in arrays
abbrev pub told : ℕ → Next → List ℤ → List ℤ → Stretch
told operands r first d = record { offsets = take operands first; length = r.length; count = r.count; moves = take operands d }

-- the offsets of n blocks, from those in `o` on, stay within 64 bits
-- Kept: few, which a lent plan's invariant says too. The laws on rows (proofs/Rows, bulk/proofs/Laying) are on a number of operands, with no plan.
pub record RowsFit (n operands : ℕ) (d o : List ℤ) : Type 0 where
  pub few : operands ≤ 8
  pub moves : length d ≡ 8
  pub offered : length o ≡ 8
  pub fits : (j : ℕ) → j < n → (k : ℕ) → k < operands → SFits w64 (get_or o k (pos 0) +ℤ pos j *ℤ get_or d k (pos 0))

-- ---- the stretches of a walk

-- how long the block is that a step hands out
abbrev pub length_handed : Option Block → ℕ
length_handed (Some b) = b.length
length_handed None = 0

-- the stretch at a state, of at most `limit` blocks
abbrev pub stretch_at : Option Way → ℕ → Plan → Walk → Stretch
stretch_at y limit p w = record {
  offsets = take p.operands w.offsets;
  length = length_handed (handed_block (stepped p w));
  count = min limit (left_of y p (widths p) w.counters);
  moves = take p.operands (moves_of y p);
}

-- calls with such limits, each at the state after the blocks of the one before, until the walk has ended
abbrev pub stretches : List ℕ → Option Way → Plan → Walk → List Stretch
stretches [] y p w = []
stretches (n ∷ ns) y p w = cond w.ended [] (stretch_at y n p w ∷ stretches ns y p (walk_after p (stretch_at y n p w).count w))

-- how many blocks stretches have
abbrev pub blocks_in : List Stretch → ℕ
blocks_in l = sum l (λ s. s.count)
