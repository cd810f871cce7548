-- "its number as on B lines": B lines number the blocks from 0 on, in document 01's order, so a block's number is its place in that list.
-- Assumes nothing.
use Rattle.std.specs.Prelude.{Bool, true, false, cond, ◌&&◌, List, [], ◌∷◌, ℕ, suc, eqb}
use Rattle.strided.specs.Walk.{CutAxis, Block, block, blocks_of}

abbrev pub same_counters : List ℕ → List ℕ → Bool
same_counters [] [] = true
same_counters [] (y ∷ d) = false
same_counters (x ∷ c) [] = false
same_counters (x ∷ c) (y ∷ d) = eqb x y && same_counters c d

-- the block is the one at the counters c
abbrev pub is_at : List ℕ → Block → Bool
is_at c (block d len) = same_counters c d

-- how many blocks of the list come before the one at the counters c
abbrev pub place_of : List Block → List ℕ → ℕ
place_of [] c = 0
place_of (b ∷ bs) c = cond (is_at c b) 0 (suc (place_of bs c))

-- THE NUMBER of the block at the counters c
unfoldable pub block_number : List CutAxis → List ℕ → ℕ
block_number axs c = place_of (blocks_of axs) c
