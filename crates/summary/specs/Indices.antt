-- THE INDICES THAT ARE MET: each index of the plan exactly once, whatever the blocks; so as many visits as the layout has cells. Assumes nothing.
use Rattle.std.specs.Prelude.{◌≡◌, refl, List, [], ◌∷◌, ◌++◌, map, ℕ, zero, suc, ◌+◌, ◌<◌, ℤ, length}
use Rattle.std.proofs.Common.{ap, ap₂, ◌∙◌, subst, add-zero, arith, length-append}
use Rattle.std.proofs.lemmas.List.{length-map}
use Rattle.strided.specs.Base.{over, run}
use Rattle.strided.specs.Layout.{Within, total}
use Rattle.strided.specs.Walk.{CutAxis, ax, Block, block, tiles, inner, in_tile, counters, length_at, block_at, blocks_of, cell_at}
use Rattle.strided.specs.Begin.{plan_extents, plan_blocks}
use Rattle.strided.specs.Step.{plan_cut_axes}
use Rattle.strided.specs.Text.{cells_of, plan_walk}
use Rattle.strided.specs.declared.Plan.{Plan}
use Rattle.laws.specs.Base.Counting.{same_list_refl, count}
use Rattle.laws.specs.Base.Lists.{All, all_unit, all_map, all-over, length_run}
use Rattle.laws.specs.Text.Totals.{walk-cells}
use Rattle.laws.specs.Walk.Cover.{met_once, met-within}
use Rattle.laws.specs.Walk.States.{cells}
use Rattle.summary.specs.Visits.{indices_in, indices_of, visits_of, offset_at}

-- ---- the cells of a block, counted from its first or on axis 0

run_on : (v : List ℕ) (s n j : ℕ) → map (λ (k : ℕ). (s + k) ∷ v) (run j n) ≡ map (λ (k : ℕ). k ∷ v) (run (s + j) n)
run_on v s zero j = refl
run_on v s (suc n) j =
    let e : s + suc j ≡ suc (s + j) = omega arith in
    ap (λ (l : List (List ℕ)). ((s + j) ∷ v) ∷ l) (run_on v s n (suc j) ∙ ap (λ (i : ℕ). map (λ (k : ℕ). k ∷ v) (run i n)) e)

-- counters of axes
abbrev NotEmpty : List ℕ → Type 0
NotEmpty [] = ⊥
NotEmpty (x ∷ xs) = Unit {0}

block_cells_lem : (axs : List CutAxis) (c : List ℕ) → NotEmpty c → indices_in (block_at axs c) ≡ cells (block_at axs c)
block_cells_lem axs [] h = absurd h
block_cells_lem axs (s ∷ v) h = run_on v s (length_at axs (s ∷ v)) 0 ∙ ap (λ (i : ℕ). map (λ (k : ℕ). k ∷ v) (run i (length_at axs (s ∷ v)))) (add-zero s)

blocks_cells : (axs : List CutAxis) (cs : List (List ℕ)) → All NotEmpty cs → over (map (block_at axs) cs) indices_in ≡ over (map (block_at axs) cs) cells
blocks_cells axs [] a = refl
blocks_cells axs (c ∷ cs) a = ap₂ (λ (u v : List (List ℕ)). u ++ v) (block_cells_lem axs c a.0) (blocks_cells axs cs a.1)

tile_some : (e w : ℕ) (axs : List CutAxis) (t : List ℕ) → All NotEmpty (in_tile (ax e w ∷ axs) t)
tile_some e w axs [] = tt
tile_some e w axs (s ∷ t) = all_map (λ (v : List ℕ). Unit {0}) NotEmpty (λ (v : List ℕ). s ∷ v) (inner axs t) (λ v u. tt) (all_unit (inner axs t))

walk-cells_are : (axs : List CutAxis) → over (blocks_of axs) indices_in ≡ over (blocks_of axs) cells
walk-cells_are [] = refl
walk-cells_are (ax e w ∷ axs) =
    blocks_cells (ax e w ∷ axs) (counters (ax e w ∷ axs))
    (all-over (λ (t : List ℕ). Unit {0}) NotEmpty (in_tile (ax e w ∷ axs)) (tiles (ax e w ∷ axs)) (λ t u. tile_some e w axs t) (all_unit (tiles (ax e w ∷ axs))))

pub indices-cells : (p : Plan) → indices_of p ≡ over (plan_walk p) cells
indices-cells p = walk-cells_are (plan_cut_axes p)

-- ---- each once

-- EACH INDEX OF THE PLAN IS MET EXACTLY ONCE
pub indices_once : (p : Plan) (y : List ℕ) → Within (plan_extents p) y → count y (indices_of p) ≡ 1
indices_once p y w = ap (count y) (indices-cells p) ∙ met_once (plan_extents p) (plan_blocks p) y w

-- and no other
all_there : (P : List ℕ → Type 0) (l : List (List ℕ)) → ((y : List ℕ) → 0 < count y l → P y) → All P l
all_there P [] f = tt
all_there P (x ∷ l) f = (
  f x (let e = same_list_refl x in omega (arith, e)),
  all_there P l (λ y h. f y (omega (arith, h))),
)

pub indices-within : (p : Plan) → All (Within (plan_extents p)) (indices_of p)
indices-within p =
    all_there (Within (plan_extents p)) (indices_of p)
    (λ y h. met-within (plan_extents p) (plan_blocks p) y (subst (λ (l : List (List ℕ)). 0 < count y l) (indices-cells p) h))

-- ---- how many

cells-many : (bs : List Block) → length (over bs indices_in) ≡ cells_of bs
cells-many [] = refl
cells-many (block c n ∷ bs) =
    let a = length-append (map (cell_at c) (run 0 n)) (over bs indices_in) in
    let b = length-map (run 0 n) (cell_at c) in
    let d = length_run 0 n in
    let e = cells-many bs in
    omega (arith, a, b, d, e)

-- AS MANY AS THE PLAN HAS CELLS
pub indices-many : (p : Plan) → length (indices_of p) ≡ total (plan_extents p)
indices-many p = cells-many (plan_walk p) ∙ walk-cells p

pub visits-many : (p : Plan) (z : ℤ) → length (visits_of p z) ≡ total (plan_extents p)
visits-many p z = length-map (indices_of p) (offset_at p z) ∙ indices-many p
