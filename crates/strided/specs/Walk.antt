-- "Blocks of the walk": the blocks of a plan in order, and the successor of a block's counters. Axis 0 is first in every list.
-- Assumes nothing.
use Rattle.std.specs.Prelude.{cond, List, [], ◌∷◌, map, ℕ, zero, suc, ◌+◌, ◌-◌, ◌*◌, ◌/◌, min, max, leb, ltb, length, take, ℤ, pos, Option, None, Some}
use Rattle.strided.specs.Base.{over, or_else, run}

-- an axis of a walk: its extent and its effective block size
pub data CutAxis : Type 0 where
  ax : ℕ → ℕ → CutAxis

-- "A block size of 0 acts as 1, one above the extent as the extent."
abbrev pub effective : ℕ → ℕ → ℕ
effective e b = max 1 (min b e)

-- extents with block sizes, a missing block size as 1
abbrev pub cut : List ℕ → List ℕ → List CutAxis
cut [] bs = []
cut (e ∷ es) [] = ax e 1 ∷ cut es []
cut (e ∷ es) (b ∷ bs) = ax e (effective e b) ∷ cut es bs

-- "Rank 9 up: only axis 0 is cut; the others step with axis 1 quickest": their block size is 1, and the rule of ranks 1 to 8 does the rest
abbrev pub cut_axes : List ℕ → List ℕ → List CutAxis
cut_axes es bs = cut es (cond (leb (length es) 8) bs (take 1 bs))

-- ---- the blocks, as nested loops

-- where the tiles of one axis start, from s on, at most f of them
abbrev pub starts_from : ℕ → ℕ → ℕ → ℕ → List ℕ
starts_from zero e w s = []
starts_from (suc f) e w s = let t = s ∷ starts_from f e w (s + w) in cond (ltb s e) t []

abbrev pub starts_of : ℕ → ℕ → List ℕ
starts_of e w = starts_from e e w 0

-- the length of the tile that starts at s
abbrev pub len_at : ℕ → ℕ → ℕ → ℕ
len_at e w s = min w (e - s)

-- "Ranks 1 to 8: tiles, outermost axis slowest"
abbrev pub tiles : List CutAxis → List (List ℕ)
tiles [] = [] ∷ []
tiles (ax e w ∷ axs) = over (tiles axs) (λ t. map (λ s. s ∷ t) (starts_of e w))

-- every index in the tile that starts at t, the last axis slowest
abbrev pub inner : List CutAxis → List ℕ → List (List ℕ)
inner [] t = [] ∷ []
inner (ax e w ∷ axs) [] = []
inner (ax e w ∷ axs) (s ∷ t) = over (inner axs t) (λ v. map (λ k. k ∷ v) (run s (len_at e w s)))

-- "inside a tile single steps on axes above 0, outermost slowest, each giving one run along axis 0". "Rank 0: one block"
abbrev pub in_tile : List CutAxis → List ℕ → List (List ℕ)
in_tile [] t = [] ∷ []
in_tile (ax e w ∷ axs) [] = []
in_tile (ax e w ∷ axs) (s ∷ t) = map (λ v. s ∷ v) (inner axs t)

-- "a walk hands out its counters, the plan index of the block's first cell": those of all blocks, in order
abbrev pub counters : List CutAxis → List (List ℕ)
counters axs = over (tiles axs) (in_tile axs)

-- the length of the block at counters c. "Rank 0: one block, length 1"
abbrev pub length_at : List CutAxis → List ℕ → ℕ
length_at [] c = 1
length_at (ax e w ∷ axs) [] = 0
length_at (ax e w ∷ axs) (s ∷ v) = len_at e w s

pub data Block : Type 0 where
  block : List ℕ → ℕ → Block

abbrev pub block_at : List CutAxis → List ℕ → Block
block_at axs c = block c (length_at axs c)

-- the blocks of the walk, in order
abbrev pub blocks_of : List CutAxis → List Block
blocks_of axs = map (block_at axs) (counters axs)

-- "cell k of the block has k more on axis 0"
abbrev pub cell_at : List ℕ → ℕ → List ℕ
cell_at [] k = []
cell_at (s ∷ v) k = (s + k) ∷ v

-- "the strides of axis 0", one for each operand. "Rank 0: .. no strides"
abbrev pub first_of : List ℤ → ℤ
first_of [] = pos 0
first_of (t ∷ ts) = t

abbrev pub run_strides : List CutAxis → List (List ℤ) → List ℤ
run_strides [] tss = []
run_strides (a ∷ axs) tss = map first_of tss

-- ---- the same blocks one by one: the successor of counters. "Nothing advances past a last position."

-- one step on one axis inside its tile
abbrev pub next_in : ℕ → ℕ → Option ℕ
next_in end k = cond (ltb (suc k) end) (Some (suc k)) None

-- the next tile of one axis
abbrev pub next_start : ℕ → ℕ → ℕ → Option ℕ
next_start e w s = cond (ltb (s + w) e) (Some (s + w)) None

-- inside the tile that starts at t: one more on the first axis that has one, those before it at their start
abbrev pub next_inner : List CutAxis → List ℕ → List ℕ → Option (List ℕ)
next_inner [] t c = None
next_inner (ax e w ∷ axs) [] c = None
next_inner (ax e w ∷ axs) (s ∷ t) [] = None
next_inner (ax e w ∷ axs) (s ∷ t) (k ∷ v) =
    or_else (or_else None (λ v'. s ∷ v') (next_inner axs t v)) (λ k'. k' ∷ v) (next_in (s + len_at e w s) k)

-- the next tile
abbrev pub next_tile : List CutAxis → List ℕ → Option (List ℕ)
next_tile [] t = None
next_tile (ax e w ∷ axs) [] = None
next_tile (ax e w ∷ axs) (s ∷ t) =
    or_else (or_else None (λ t'. 0 ∷ t') (next_tile axs t)) (λ s'. s' ∷ t) (next_start e w s)

-- the start of the tile that counters are in
abbrev pub tile_of : List CutAxis → List ℕ → List ℕ
tile_of [] c = []
tile_of (ax e w ∷ axs) [] = []
tile_of (ax e w ∷ axs) (k ∷ v) = k / w * w ∷ tile_of axs v

abbrev pub next : List CutAxis → List ℕ → Option (List ℕ)
next [] c = None
next (ax e w ∷ axs) [] = None
next (ax e w ∷ axs) (s ∷ v) =
    or_else (next_tile (ax e w ∷ axs) (tile_of (ax e w ∷ axs) (s ∷ v))) (λ v'. s ∷ v') (next_inner axs (tile_of axs v) v)

abbrev pub zeros : List CutAxis → List ℕ
zeros [] = []
zeros (a ∷ axs) = 0 ∷ zeros axs
