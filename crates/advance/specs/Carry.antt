-- A carry along the axes, on arrays: what it asks of the offsets and the tile starts, and what it leaves.
-- Assumes nothing.
use Rattle.std.specs.Prelude.{◌≡◌, List, Bool, true, false, cond, ℕ, zero, suc, ◌+◌, ◌-◌, ◌*◌, ◌<◌, ◌≤◌, ◌^◌, ℤ, pos, nat_abs, ◌+ℤ◌, ◌-ℤ◌, ◌*ℤ◌, length, get_or, set}
use Rattle.std.specs.Int.{w64}
use Rattle.std.proofs.Common.{SFits}
use Rattle.strided.specs.declared.Plan.{Plan}
use Rattle.advance.specs.declared.place.Goal.{Goal}
use Rattle.advance.specs.declared.place.Place.{Place}
use Rattle.advance.specs.declared.State.{State}
use Rattle.advance.specs.Axis.{start_of, goal_of}

-- a state out of its parts
abbrev pub state_of : List ℕ → List ℕ → List ℤ → State
state_of t c o = record { tile_starts = t; counters = c; offsets = o }

pub record Carried : Type 0 where
  pub more : Bool
  pub counters : List ℕ

-- the carry over n axes from axis i on: each goes where it aims, up to the first that goes ahead
unfoldable pub carry_of : Bool → List ℕ → List ℕ → ℕ → ℕ → List ℕ → Carried
carry_of inside e w zero i c = record { more = false; counters = c }
carry_of inside e w (suc n) i c =
    let a : Goal = goal_of inside (get_or e i 0) (get_or w i 0) (get_or c i 0) in
    cond a.more (record { more = true; counters = set c i a.to }) (carry_of inside e w n (suc i) (set c i a.to))

-- the next block: a step inside the tile, or else the next tile
unfoldable pub next_of : ℕ → List ℕ → List ℕ → List ℕ → Carried
next_of rank e w c =
    let inner : Carried = carry_of true e w (rank - 1) 1 c in
    cond inner.more inner (carry_of false e w (rank - 0) 0 inner.counters)

-- the counters times the strides of operand k, over the first n axes
unfoldable pub dot_to : ℕ → ℕ → List ℕ → List ℤ → ℤ
dot_to zero k c s = pos 0
dot_to (suc n) k c s = dot_to n k c s +ℤ pos (get_or c n 0) *ℤ get_or s (k * 64 + n) (pos 0)

-- operand k's offset at the counters 0, told from the offset at the counters c
unfoldable pub start_at : Plan → ℕ → List ℕ → List ℤ → ℤ
start_at p k c o = get_or o k (pos 0) -ℤ dot_to p.rank k c p.strides

-- each counter is below its extent
abbrev pub Below : Plan → List ℕ → Type 0
Below p c = (i : ℕ) → i < p.rank → get_or c i 0 < get_or p.extents i 0

-- every offset that the plan reaches from the start fits 64 bits, and so does the way along each axis
-- Kept: axes and few, which a lent plan's invariant says too. The laws on moves (proofs/Dot, proofs/Turns, walker/proofs/Leaving) are on plans
-- that nobody lends, and each would take Whole beside Roomy.
pub record Roomy (p : Plan) (at : State) : Type 0 where
  pub axes : p.rank ≤ 64
  pub few : p.operands ≤ 8
  pub counted : length at.counters ≡ 64
  pub offered : length at.offsets ≡ 8
  pub within : Below p at.counters
  pub span : (k i : ℕ) → k < p.operands → i < p.rank → (get_or p.extents i 0 - 1) * nat_abs (get_or p.strides (k * 64 + i) (pos 0)) < 2 ^ 63
  pub reach : (k : ℕ) → k < p.operands → (x : List ℕ) → Below p x → SFits w64 (start_at p k at.counters at.offsets +ℤ dot_to p.rank k x p.strides)

-- every block size is 1 or more, and the tile starts are those of the tiles that the counters are in
pub record Tiled (p : Plan) (w : List ℕ) (at : State) : Type 0 where
  pub placed : length at.tile_starts ≡ 64
  pub wide : (i : ℕ) → i < p.rank → 0 < get_or w i 0
  pub start : (i : ℕ) → i < p.rank → get_or at.tile_starts i 0 ≡ start_of (get_or w i 0) (get_or at.counters i 0)

-- a state stands on one axis of a plan: its counter is below the extent, and the tile's start is that of the tile that it is in
pub record Standing (p : Plan) (w : List ℕ) (axis : ℕ) (at : State) : Type 0 where
  pub wide : 0 < get_or w axis 0
  pub within : get_or at.counters axis 0 < get_or p.extents axis 0
  pub start : get_or at.tile_starts axis 0 ≡ start_of (get_or w axis 0) (get_or at.counters axis 0)

-- and where: its tile starts as the counter says
pub record PlaceOn (p : Plan) (w : List ℕ) (axis : ℕ) (c : List ℕ) (x : Place) : Type 0 where
  pub extent : x.extent ≡ get_or p.extents axis 0
  pub width : x.width ≡ get_or w axis 0
  pub here : x.at ≡ get_or c axis 0

-- the axes from n on have blocks of 1
pub record Single (n : ℕ) (p : Plan) (w : List ℕ) : Type 0 where
  pub most : n ≤ p.rank
  pub one : (i : ℕ) → n ≤ i → i < p.rank → get_or w i 0 ≡ 1

-- what is left of a state where the counters go as the definition says: each operand's start is as it was
pub record MovedTo (goes : Carried) (p : Plan) (w : List ℕ) (at : State) (more : Bool) (at' : State) : Type 0 where
  pub answer : more ≡ goes.more
  pub counters : at'.counters ≡ goes.counters
  pub roomy : Roomy p at'
  pub tiled : Tiled p w at'
  pub starts : (k : ℕ) → k < p.operands → start_at p k at'.counters at'.offsets ≡ start_at p k at.counters at.offsets
  pub others : (k : ℕ) → p.operands ≤ k → get_or at'.offsets k (pos 0) ≡ get_or at.offsets k (pos 0)

abbrev pub CarriedTo : Bool → ℕ → ℕ → Plan → List ℕ → State → Bool → State → Type 0
CarriedTo inside first last p w at = MovedTo (carry_of inside p.extents w (last - first) first at.counters) p w at

abbrev pub AdvancedTo : Plan → List ℕ → State → Bool → State → Type 0
AdvancedTo p w at = MovedTo (next_of p.rank p.extents w at.counters) p w at

-- an axis inside its tile went ahead, which is a carry from it on up to wherever; or it did not, and nothing moved
pub record WentAhead (axis : ℕ) (p : Plan) (w : List ℕ) (at : State) (r : Bool) (at' : State) : Type 0 where
  pub ahead : r ≡ true → (last : ℕ) → axis < last → last ≤ p.rank → CarriedTo true axis last p w at true at'
  pub kept : r ≡ false → at' ≡ at
