-- The cells of a plan's blocks, in the plan's order; and what the functions that copy them ask.
-- Assumes nothing.
use Rattle.std.specs.Prelude.{◌≡◌, true, List, map, ℕ, ◌*◌, ◌/◌, ◌^◌, ◌<◌, T, ℤ, pos, nat_abs, ◌+ℤ◌, ◌*ℤ◌, length, get_or, take, None}
use Rattle.std.specs.Int.Signed.{non_neg}
use Rattle.std.specs.Int.{w64}
use Rattle.std.proofs.Common.{SFits}
use Rattle.strided.specs.Base.{over, run}
use Rattle.strided.specs.Walk.{counters, length_at}
use Rattle.strided.specs.Begin.{begin_refused}
use Rattle.strided.specs.Step.{plan_cut_axes}
use Rattle.strided.specs.declared.Plan.{Plan}
use Rattle.strided.specs.declared.Walk.{Walk}
use Rattle.laws.specs.Walk.Placed.{Placed, placed_from, placed_walk}
use Rattle.advance.specs.Sized.{Sized}
use Rattle.walker.specs.declared.Next.{Next}
use Rattle.span.specs.Span.{in_cells}
use Rattle.cells.specs.declared.Side.{Side}
use Rattle.cells.specs.Copy.{Pair, pair, In, Apart}
use Rattle.cells.specs.Offsets.{place_at}

-- operand k's stride along a block, as a plan's array of strides has it
abbrev pub along : List ℤ → ℕ → ℤ
along ss k = get_or ss (k * 64) (pos 0)

-- operand k's offset at cell i of a block
abbrev pub offset_in : List ℤ → Placed → ℕ → ℕ → ℤ
offset_in ss b k i = get_or b.offsets k (pos 0) +ℤ pos i *ℤ along ss k

-- the cells of a block, of w bytes each, in order; and those of a plan's blocks, from the starts zs
abbrev pub cell_in : ℕ → List ℤ → Placed → ℕ → Pair
cell_in w ss b i = pair (place_at w (offset_in ss b 0 i)) (place_at w (offset_in ss b 1 i))

abbrev pub block_cells : ℕ → List ℤ → Placed → List Pair
block_cells w ss b = map (cell_in w ss b) (run 0 b.length)

unfoldable pub walk_cells : ℕ → Plan → List ℤ → List Pair
walk_cells w p zs = over (placed_walk p zs) (block_cells w p.strides)

-- ---- a walk's copy asks

-- where two operands start, told by the state at which their walk has begun
abbrev pub starts_of : Walk → List ℤ
starts_of w = take 2 w.offsets

pub record Copyable (p : Plan) (zs : List ℤ) (w to from : ℕ) : Type 0 where
  pub sized : Sized p
  pub begins : begin_refused p zs ≡ None
  pub two : p.operands ≡ 2
  -- each cell is one of those that the buffers have room for
  pub into : (c : List ℕ) → In c (counters (plan_cut_axes p)) → (i : ℕ) → i < length_at (plan_cut_axes p) c → in_cells (to / w) (offset_in p.strides (placed_from p zs c) 0 i) ≡ true
  pub out : (c : List ℕ) → In c (counters (plan_cut_axes p)) → (i : ℕ) → i < length_at (plan_cut_axes p) c → in_cells (from / w) (offset_in p.strides (placed_from p zs c) 1 i) ≡ true
  -- no block is as long as 2^63
  pub short : (c : List ℕ) → In c (counters (plan_cut_axes p)) → length_at (plan_cut_axes p) c < 2 ^ 63
  pub apart : Apart w (walk_cells w p zs)

-- ---- a stretch

-- operand k's offset at cell i of block j: `first` has the first block's offsets, `d` the moves from block to block
abbrev pub offset_at : List ℤ → List ℤ → List ℤ → ℕ → ℕ → ℕ → ℤ
offset_at ss d first k j i = (get_or first k (pos 0) +ℤ pos j *ℤ get_or d k (pos 0)) +ℤ pos i *ℤ along ss k

-- the cells of n1 blocks of n0 cells, block after block
abbrev pub row_cells : ℕ → ℕ → List ℤ → List ℤ → List ℤ → ℕ → List Pair
row_cells w n0 ss d first j = map (λ i. pair (place_at w (offset_at ss d first 0 j i)) (place_at w (offset_at ss d first 1 j i))) (run 0 n0)

unfoldable pub stretch_cells : ℕ → ℕ → ℕ → List ℤ → List ℤ → List ℤ → List Pair
stretch_cells w n0 n1 ss d first = over (run 0 n1) (row_cells w n0 ss d first)

-- what its copy asks; `to` and `from` are the lengths of the buffers
pub record Stretching (w to from : ℕ) (x : Next) (ss d first : List ℤ) : Type 0 where
  pub strides : length ss ≡ 512
  pub moves : length d ≡ 8
  pub offered : length first ≡ 8
  pub one : 0 < x.length
  pub row : 0 < x.count
  pub cells : x.length < 2 ^ 63
  pub blocks : x.count < 2 ^ 63
  pub into : (i j : ℕ) → i < x.length → j < x.count → in_cells (to / w) (offset_at ss d first 0 j i) ≡ true
  pub out : (i j : ℕ) → i < x.length → j < x.count → in_cells (from / w) (offset_at ss d first 1 j i) ≡ true
  pub apart : Apart w (stretch_cells w x.length x.count ss d first)

-- ---- one operand of it in bytes: its first offset z, its steps t along a block and u from block to block

-- what it asks: no number is too large
pub record Bytes (w n0 n1 : ℕ) (z t u : ℤ) : Type 0 where
  pub sign : T (non_neg z)
  pub first : nat_abs z * w < 2 ^ 63
  pub along : 1 < n0 → SFits w64 (t *ℤ pos w)
  pub on : 1 < n1 → SFits w64 (u *ℤ pos w)

-- and what it is
pub record InBytes (w n0 n1 : ℕ) (z t u : ℤ) (o : Side) : Type 0 where
  pub first : pos o.first ≡ z *ℤ pos w
  pub along : 1 < n0 → o.step0 ≡ t *ℤ pos w
  pub on : 1 < n1 → o.step1 ≡ u *ℤ pos w
