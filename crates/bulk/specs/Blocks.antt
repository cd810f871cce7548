-- What writing the next blocks of a walk asks, and what it leaves.
-- Assumes nothing.
use Rattle.std.specs.Prelude.{◌≡◌, List, ℕ, ◌+◌, ◌*◌, ◌^◌, ◌≤◌, ◌<◌, ℤ, pos, ◌+ℤ◌, ◌*ℤ◌, length, get_or, take, Option, Some, Result, Ok, Err}
use Rattle.std.specs.Int.{w64}
use Rattle.std.proofs.Common.{SFits}
use Rattle.strided.specs.Base.{over, run}
use Rattle.strided.specs.Bulk.{next_blocks, lengths_of, offsets_of, laid_on, several_of, SteppedMany}
use Rattle.strided.specs.Memory.{WalkMemory, walk_memory, ManyMemory, many_leaves}
use Rattle.strided.specs.declared.Refusal.{Refusal}
use Rattle.strided.specs.declared.Plan.{Plan}
use Rattle.strided.specs.declared.Walk.{Walk}
use Rattle.strided.specs.declared.Several.{Several}
use Rattle.walker.specs.Stretch.{moved_on, RowsFit}

-- n blocks were written, and the walk stands at w
abbrev pub handed : ℕ → Walk → Several
handed n w = record { blocks = Some n; walk = w }

-- two slices have room for n blocks
pub record HasRoom (n operands : ℕ) (ls : List ℕ) (os : List ℤ) : Type 0 where
  pub lengths : n ≤ length ls
  pub offsets : n * operands ≤ length os

-- the next n blocks of the walk w were written to the slices ls and os, which are now ls' and os': they are `count`, and the walk stands in the
-- memory m
pub record Wrote (n : ℕ) (p : Plan) (w : Walk) (ls : List ℕ) (os : List ℤ) (count : ℕ) (m : WalkMemory) (ls' : List ℕ) (os' : List ℤ) : Type 0 where
  pub walk : Walk
  pub stands : m ≡ walk_memory walk
  pub several : Ok (handed count walk) ≡ several_of p w (next_blocks n p w)
  pub lengths : ls' ≡ laid_on (lengths_of (next_blocks n p w)) ls
  pub offsets : os' ≡ laid_on (offsets_of p.operands (next_blocks n p w)) os

-- how many blocks were written, if any, without the state
abbrev pub blocks_in : Result Several Refusal → Result (Option ℕ) Refusal
blocks_in (Ok s) = Ok s.blocks
blocks_in (Err r) = Err r

-- many steps in lent memory say how many blocks they write, and leave what the steps leave
pub record SteppedManyInto (m : SteppedMany) (old new : ManyMemory) (answer : Result (Option ℕ) Refusal) : Type 0 where
  pub said : answer ≡ blocks_in m.several
  pub memory : new ≡ many_leaves m.several m old

-- the offsets of n blocks of a stretch, from those in `o` on by the moves `d`
abbrev pub row_at : ℕ → List ℤ → List ℤ → ℕ → List ℤ
row_at operands d o j = moved_on j (take operands o) (take operands d)

abbrev pub rows_for : ℕ → ℕ → List ℤ → List ℤ → List ℤ
rows_for n operands d o = over (run 0 n) (row_at operands d o)

-- what writing row j of them asks
pub record RowFits (j operands : ℕ) (d o : List ℤ) : Type 0 where
  pub few : operands ≤ 8
  pub moves : length d ≡ 8
  pub offered : length o ≡ 8
  pub small : j < 2 ^ 63
  pub steps : (k : ℕ) → k < operands → SFits w64 (pos j *ℤ get_or d k (pos 0))
  pub fits : (k : ℕ) → k < operands → SFits w64 (get_or o k (pos 0) +ℤ pos j *ℤ get_or d k (pos 0))

-- what writing all of them asks, from block `at` of a slice on
pub record MayPut (n operands at : ℕ) (d o os : List ℤ) : Type 0 where
  pub small : at + n < 2 ^ 63
  pub room : (at + n) * operands ≤ length os
  pub rows : RowsFit n operands d o
  pub steps : (j k : ℕ) → j < n → k < operands → SFits w64 (pos j *ℤ get_or d k (pos 0))
