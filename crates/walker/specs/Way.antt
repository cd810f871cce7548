-- The way that stretches go, along one axis, the quickest that moves alone; and what going it asks of the arrays and leaves.
-- Assumes nothing.
use Rattle.std.specs.Prelude.{◌≡◌, Bool, true, false, cond, List, ℕ, ◌+◌, ◌-◌, ◌*◌, ◌/◌, ◌^◌, ◌≤◌, ◌<◌, min, max, eqb, ℤ, pos, ◌+ℤ◌, Option, Some, None, length, get_or, set, replicate}
use Rattle.std.specs.Int.{w64}
use Rattle.std.proofs.Common.{SFits}
use Rattle.advance.specs.Axis.{start_of}
use Rattle.advance.specs.Blocks.{length_of}
use Rattle.advance.specs.Carry.{Standing, Roomy, Tiled, MovedTo, AdvancedTo}
use Rattle.advance.specs.Filled.{filled_to}
use Rattle.advance.specs.Moves.{shifted, Shifts}
use Rattle.strided.specs.declared.Plan.{Plan}
use Rattle.advance.specs.declared.State.{State}
use Rattle.walker.specs.declared.way.Way.{Way}
use Rattle.walker.specs.declared.Next.{Next}

-- the first axis from 1 on whose blocks are not 1, if there is one
abbrev pub FirstCut : Plan → List ℕ → Option ℕ → Type 0
FirstCut p w (Some i) = (1 ≤ i) × (i < p.rank) × (get_or w i 0 ≡ 1 → ⊥) × ((j : ℕ) → 1 ≤ j → j < i → get_or w j 0 ≡ 1)
FirstCut p w None = (j : ℕ) → 1 ≤ j → j < p.rank → get_or w j 0 ≡ 1

-- WHERE A WAY LEADS: `by` further on the axis is the next block, as long as the axis goes ahead.
-- Inside a tile: no axis before it moves there. From tile to tile: nothing moves inside a tile, and each axis before it has one tile.
pub record Along (y : Way) (p : Plan) (w : List ℕ) : Type 0 where
  pub there : y.axis < p.rank
  pub room : y.by < get_or p.extents y.axis 0
  pub inner_by : y.inside ≡ true → y.by ≡ 1
  pub inner_axis : y.inside ≡ true → 1 ≤ y.axis
  pub inner-still : y.inside ≡ true → (j : ℕ) → 1 ≤ j → j < y.axis → get_or w j 0 ≡ 1
  pub tile_by : y.inside ≡ false → y.by ≡ get_or w y.axis 0
  pub tile_still : y.inside ≡ false → (j : ℕ) → 1 ≤ j → j < p.rank → get_or w j 0 ≡ 1
  pub tile_whole : y.inside ≡ false → (j : ℕ) → j < y.axis → get_or p.extents j 0 ≤ get_or w j 0

-- and where a route does, if it has a way
pub record Leads (y : Option Way) (p : Plan) (w : List ℕ) : Type 0 where
  pub along : (v : Way) → y ≡ Some v → Along v p w

-- how many blocks are ahead on an axis, the one at `at` with them: what is left of the tile, or the tiles of full width
unfoldable pub left_in : Way → ℕ → ℕ → ℕ → ℕ
left_in y extent w at = cond y.inside (min (w - (at - start_of w at)) (extent - at)) (max 1 ((extent - at) / w))

-- of a way, if there is one; else the one block
abbrev pub left_of : Option Way → Plan → List ℕ → List ℕ → ℕ
left_of None p w c = 1
left_of (Some y) p w c = left_in y (get_or p.extents y.axis 0) (get_or w y.axis 0) (get_or c y.axis 0)

-- the last block of the stretch is the axis's last: behind it there is not a shorter tile
abbrev pub AtEnd : Way → ℕ → ℕ → ℕ → Type 0
AtEnd y extent w at = y.inside ≡ false → extent - (at + (left_in y extent w at - 1) * y.by) ≤ w

-- how far each operand moves from block to block
abbrev pub moves_of : Option Way → Plan → List ℤ
moves_of None p = replicate 8 (pos 0)
moves_of (Some y) p = shifted p y.axis 0 y.by (replicate 8 (pos 0))

-- ---- along the way

-- the counters j blocks on
abbrev pub onward : Option Way → List ℕ → ℕ → List ℕ
onward None c j = c
onward (Some y) c j = set c y.axis (get_or c y.axis 0 + j * y.by)

-- the move by j blocks
abbrev pub OnTo : Option Way → ℕ → Plan → List ℕ → State → State → Type 0
OnTo y j p w at = MovedTo (record { more = true; counters = onward y at.counters j }) p w at true

-- what going on by so many blocks asks
pub record MayGo (y : Way) (steps : ℕ) (p : Plan) (at : State) : Type 0 where
  pub fits : 0 < steps → get_or at.counters y.axis 0 + steps * y.by < 2 ^ 64
  pub moves : 0 < steps → Shifts p y.axis (get_or at.counters y.axis 0) (get_or at.counters y.axis 0 + steps * y.by) at.offsets

-- and what it leaves
pub record Gone (y : Way) (steps : ℕ) (p : Plan) (at at' : State) : Type 0 where
  pub starts : at'.tile_starts ≡ cond (eqb steps 0) at.tile_starts (cond y.inside at.tile_starts (set at.tile_starts y.axis (get_or at.counters y.axis 0 + steps * y.by)))
  pub counters : at'.counters ≡ cond (eqb steps 0) at.counters (onward (Some y) at.counters steps)
  pub offsets : at'.offsets ≡ cond (eqb steps 0) at.offsets (shifted p y.axis (get_or at.counters y.axis 0) (get_or at.counters y.axis 0 + steps * y.by) at.offsets)

-- ---- a stretch

-- what handing one out asks of the state. Axis 0 stands where a tile starts
pub record Strides (p : Plan) (w : List ℕ) (at : State) : Type 0 where
  pub roomy : Roomy p at
  pub tiled : Tiled p w at
  pub start : 0 < p.rank → get_or at.counters 0 0 ≡ start_of (get_or w 0 0) (get_or at.counters 0 0)

-- where block j of a stretch, the last, is left: the walk goes on as a step does
pub record LeftFrom (y : Option Way) (j : ℕ) (p : Plan) (w : List ℕ) (at : State) (more : Bool) (at' : State) : Type 0 where
  pub there : State
  pub last : OnTo y j p w at there
  pub then : AdvancedTo p w there more at'

abbrev pub Leaves : Option Way → Plan → List ℕ → State → Bool → State → Type 0
Leaves y p w at = LeftFrom y (left_of y p w at.counters - 1) p w at

-- what looking at a stretch asks
pub record MayTell (y : Option Way) (p : Plan) (w : List ℕ) (at : State) : Type 0 where
  pub first : 0 < p.rank → get_or at.counters 0 0 < get_or p.extents 0 0
  pub there : (v : Way) → y ≡ Some v → Standing p w v.axis at

-- what going past a stretch of at most `limit` blocks leaves of the state
pub record Passed (y : Option Way) (limit : ℕ) (p : Plan) (w : List ℕ) (at : State) (more : Bool) (at' : State) : Type 0 where
  pub short : limit < left_of y p w at.counters → (more ≡ true) × OnTo y limit p w at at'
  pub all : left_of y p w at.counters ≤ limit → Leaves y p w at more at'

-- the walk went past it; or nothing moved
pub record Hopped (y : Option Way) (limit : ℕ) (p : Plan) (w : List ℕ) (at : State) (r : Bool) (at' : State) : Type 0 where
  pub past : r ≡ true → Passed y limit p w at true at'
  pub kept : r ≡ false → at' ≡ at

-- what handing out a stretch of at most `limit` blocks leaves of the state
pub record Strode (y : Option Way) (limit : ℕ) (p : Plan) (w : List ℕ) (at : State) (r : Next) (first : List ℤ) (at' : State) : Type 0 where
  pub count : r.count ≡ min limit (left_of y p w at.counters)
  pub length : r.length ≡ length_of p w at.counters
  pub offsets : first ≡ at.offsets
  pub short : limit < left_of y p w at.counters → (r.more ≡ true) × OnTo y limit p w at at'
  pub all : left_of y p w at.counters ≤ limit → Leaves y p w at r.more at'

-- ---- the offsets of the blocks of a stretch, one after another

-- the first n offsets, each moved by what its operand moves
abbrev pub added_at : List ℤ → List ℤ → ℕ → ℤ
added_at d o k = get_or o k (pos 0) +ℤ get_or d k (pos 0)

abbrev pub added : ℕ → List ℤ → List ℤ → List ℤ
added n d o = filled_to o (added_at d o) n

-- what moving them on asks
pub record MayMove (operands : ℕ) (d o : List ℤ) : Type 0 where
  pub few : operands ≤ 8
  pub moves : length d ≡ 8
  pub offered : length o ≡ 8
  pub fits : (k : ℕ) → k < operands → SFits w64 (added_at d o k)
