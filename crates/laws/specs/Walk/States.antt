-- The words that the laws of a walk use: indices and tile starts within cut axes, the cells of a block, where a walk begins, its counters
-- after n steps.
-- Assumes nothing.
use Rattle.std.specs.Prelude.{◌≡◌, cond, List, [], ◌∷◌, map, ℕ, ◌%◌, ◌<◌, ltb, Option, None, Some}
use Rattle.strided.specs.Base.{or_else, run, after}
use Rattle.strided.specs.Walk.{CutAxis, ax, Block, block, next}

-- the index x lies within the extents
abbrev pub Inside : List CutAxis → List ℕ → Type 0
Inside [] [] = Unit {0}
Inside [] (x ∷ xs) = ⊥
Inside (ax e w ∷ axs) [] = ⊥
Inside (ax e w ∷ axs) (x ∷ xs) = (x < e) × Inside axs xs

-- every block size is 1 or more
abbrev pub Wide : List CutAxis → Type 0
Wide [] = Unit {0}
Wide (ax e w ∷ axs) = (0 < w) × Wide axs

-- on axis 0, c is where a tile starts
abbrev pub OnStart : List CutAxis → List ℕ → Type 0
OnStart [] c = Unit {0}
OnStart (ax e w ∷ axs) [] = ⊥
OnStart (ax e w ∷ axs) (s ∷ v) = s % w ≡ 0

-- the plan indices of a block's cells
abbrev pub cells : Block → List (List ℕ)
cells (block [] n) = [] ∷ []
cells (block (c ∷ v) n) = map (λ k. k ∷ v) (run c n)

-- where a walk begins: all counters 0, or at once ended if an extent is 0
abbrev pub begin : List CutAxis → Option (List ℕ)
begin [] = Some []
begin (ax e w ∷ axs) = cond (ltb 0 e) (or_else None (λ v. 0 ∷ v) (begin axs)) None

-- the counters after n steps: those of the block that the next step hands out, or none
abbrev pub state_after : List CutAxis → ℕ → Option (List ℕ)
state_after axs n = after (next axs) n (begin axs)

-- some number of steps comes to c
abbrev pub Comes : List CutAxis → List ℕ → Type 0
Comes axs c = (n : ℕ) × (state_after axs n ≡ Some c)
