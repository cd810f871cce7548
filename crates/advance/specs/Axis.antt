-- One axis of the walk on arrays: the block size in force, the start of a tile, and where the counter goes next.
-- Assumes nothing.
use Rattle.std.specs.Prelude.{◌≡◌, Bool, true, false, cond, List, ℕ, ◌+◌, ◌-◌, ◌*◌, ◌/◌, ltb, leb, eqb, get_or, replicate}
use Rattle.strided.specs.Walk.{effective}
use Rattle.strided.specs.declared.Plan.{Plan}
use Rattle.advance.specs.declared.place.Goal.{Goal}
use Rattle.advance.specs.Filled.{filled_to}

-- from rank 9 only axis 0 is cut
unfoldable pub width_of : ℕ → ℕ → ℕ → ℕ → ℕ
width_of rank axis extent block = cond (leb rank 8) (effective extent block) (cond (eqb axis 0) (effective extent block) 1)

abbrev pub width_at : Plan → ℕ → ℕ
width_at p i = width_of p.rank i (get_or p.extents i 0) (get_or p.blocks i 0)

-- the first n block sizes in force, in an array of 64 places; and all of them
abbrev pub widths_to : Plan → ℕ → List ℕ
widths_to p n = filled_to (replicate 64 0) (width_at p) n

abbrev pub widths : Plan → List ℕ
widths p = widths_to p p.rank

-- block sizes are a plan's, as they act
abbrev pub Acting : List ℕ → Plan → Type 0
Acting w p = w ≡ widths p

-- where the tile starts that a counter is in
abbrev pub start_of : ℕ → ℕ → ℕ
start_of w at = at / w * w

-- the first n of them
abbrev pub tile_at : List ℕ → List ℕ → ℕ → ℕ
tile_at w c i = start_of (get_or w i 0) (get_or c i 0)

abbrev pub starts_to : List ℕ → List ℕ → ℕ → List ℕ
starts_to w c n = filled_to (replicate 64 0) (tile_at w c) n

-- the counter goes ahead to a place, or back to one
abbrev pub ahead : ℕ → ℕ → Goal
ahead n s = record { more = true; to = n; start = s }

abbrev pub back : ℕ → Goal
back s = record { more = false; to = s; start = s }

-- inside a tile: one ahead, or back to the tile's start
unfoldable pub inside_goal : ℕ → ℕ → ℕ → Goal
inside_goal extent w at =
    cond (ltb (at - start_of w at) (w - 1)) (cond (ltb at (extent - 1)) (ahead (at + 1) (start_of w at)) (back (start_of w at))) (back (start_of w at))

-- from tile to tile: a block ahead, or back to 0
unfoldable pub tile_goal : ℕ → ℕ → ℕ → Goal
tile_goal extent w at = cond (ltb w (extent - start_of w at)) (ahead (start_of w at + w) (start_of w at + w)) (back 0)

unfoldable pub goal_of : Bool → ℕ → ℕ → ℕ → Goal
goal_of inside extent w at = cond inside (inside_goal extent w at) (tile_goal extent w at)
