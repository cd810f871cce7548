-- What Axis and Blocks tell of a plan, told of its arrays one by one.
-- Assumes nothing.
use Rattle.std.specs.Prelude.{List, [], ◌∷◌, ℕ, ℤ, get_or, replicate}
use Rattle.advance.specs.Filled.{filled_to}
use Rattle.advance.specs.Axis.{width_of}
use Rattle.advance.specs.Blocks.{length_by, firsts_of}
use Rattle.advance.specs.Carry.{Single}
use Rattle.strided.specs.Memory.{plan_of}
use Rattle.strided.specs.declared.Plan.{Plan}
use Rattle.advance.specs.declared.tiles.Tiles.{Tiles}

-- the plan that arrays in tiles are
abbrev pub plan_in : Tiles → Plan
plan_in t = plan_of t.rank t.operands t.extents.now t.blocks.now t.strides.now

-- the block size in force on axis j
abbrev pub width_in : ℕ → List ℕ → List ℕ → ℕ → ℕ
width_in rank e b j = width_of rank j (get_or e j 0) (get_or b j 0)

-- the first n of them, in an array of 64 places
abbrev pub widths_in : ℕ → List ℕ → List ℕ → ℕ → List ℕ
widths_in rank e b n = filled_to (replicate 64 0) (width_in rank e b) n

-- the axes from n on have blocks of 1, by what a plan has of it: the rank
abbrev pub SingleTo : ℕ → ℕ → List ℕ → Type 0
SingleTo n rank = Single n (plan_of rank 0 [] [] [])

-- the length of a block, by what a plan has of it: the rank and the extent of axis 0
unfoldable pub length_on : ℕ → ℕ → ℕ → ℕ → ℕ
length_on rank extent = length_by (plan_of rank 0 (extent ∷ []) [] [])

-- that of the block at the counters c
abbrev pub length_of : ℕ → List ℕ → List ℕ → List ℕ → ℕ
length_of rank e w c = length_on rank (get_or e 0 0) (get_or w 0 0) (get_or c 0 0)

-- the strides of axis 0, if there is one
unfoldable pub firsts_in : ℕ → ℕ → List ℤ → List ℤ
firsts_in rank operands s = firsts_of (plan_of rank operands [] [] s)
