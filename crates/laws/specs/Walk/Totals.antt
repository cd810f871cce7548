-- THE Z FIGURES: "they equal the number of B blocks and the sum of their lengths". The sum of the lengths is the total, and the number of
-- blocks is the number of tiles of axis 0 times the other extents. For any extents and any block sizes.
-- Assumes nothing.
use Rattle.std.specs.Prelude.{◌≡◌, refl, ◌↔◌, List, [], ◌∷◌, map, ℕ, ◌-◌, ◌*◌, ◌≤◌, ◌<◌, ℤ, length, None}
use Rattle.std.proofs.Common.{sym, ap, ap₂, ◌∙◌, arith}
use Rattle.std.proofs.Math.Nat.{sub-zero}
use Rattle.std.proofs.lemmas.List.{length-map}
use Rattle.strided.specs.Base.{run}
use Rattle.strided.specs.Layout.{extents, total}
use Rattle.strided.specs.Fuse.{plan_axes}
use Rattle.strided.specs.Walk.{CutAxis, ax, cut, cut_axes, starts_of, len_at, tiles, inner, in_tile, counters, length_at, block_at, blocks_of}
use Rattle.strided.specs.Text.{cells_in}
use Rattle.strided.specs.declared.Purpose.{Purpose}
use Rattle.laws.specs.Base.Lists.{length_run, nth_none}
use Rattle.laws.specs.Base.Sums.{sum, sum_ones, sum_cong, sum_scale, sum_over, sum-map}
use Rattle.laws.specs.Fuse.Maps.{plan_total}
use Rattle.laws.specs.Walk.States.{Wide, state_after}
use Rattle.laws.specs.Walk.Cuts.{axes_wide}
use Rattle.laws.specs.Walk.Cover.{tiles-run, tile_sum}
use Rattle.laws.specs.Walk.Reach.{state-nth}

-- the total of cut axes, and how many blocks they have
abbrev pub cell_count : List CutAxis → ℕ
cell_count [] = 1
cell_count (ax e w ∷ axs) = e * cell_count axs

abbrev pub block_count : List CutAxis → ℕ
block_count [] = 1
block_count (ax e w ∷ axs) = length (starts_of e w) * cell_count axs

-- the tiles of one axis are as long together as the axis
pub lens : (e w : ℕ) → 0 < w → sum (starts_of e w) (λ s. len_at e w s) ≡ e
lens e w hw =
    sum_cong (starts_of e w) (λ s. len_at e w s) (λ s. sum (run s (len_at e w s)) (λ k. 1)) (λ s. sym (sum_ones (run s (len_at e w s)) ∙ length_run s (len_at e w s)))
    ∙ sym (sum_over (starts_of e w) (λ s. run s (len_at e w s)) (λ k. 1))
    ∙ ap (λ l. sum l (λ k. 1)) (tiles-run e e w 0 hw (omega arith))
    ∙ sum_ones (run 0 (e - 0)) ∙ length_run 0 (e - 0) ∙ sub-zero e

pub inner_size : (e w : ℕ) (axs : List CutAxis) (s : ℕ) (t : List ℕ)
    → sum (inner (ax e w ∷ axs) (s ∷ t)) (λ v. 1) ≡ len_at e w s * sum (inner axs t) (λ v. 1)
inner_size e w axs s t =
    sum_over (inner axs t) (λ v. map (λ k. k ∷ v) (run s (len_at e w s))) (λ v. 1)
    ∙ sum_cong (inner axs t) (λ v. sum (map (λ k. k ∷ v) (run s (len_at e w s))) (λ u. 1)) (λ v. len_at e w s * 1)
    (λ v. sum-map (run s (len_at e w s)) (λ k. k ∷ v) (λ u. 1) ∙ omega (arith, sum_ones (run s (len_at e w s)), length_run s (len_at e w s)))
    ∙ sum_scale (inner axs t) (λ v. 1) (len_at e w s)

inner-total : (axs : List CutAxis) → Wide axs → sum (tiles axs) (λ t. sum (inner axs t) (λ v. 1)) ≡ cell_count axs
inner-total [] hw = refl
inner-total (ax e w ∷ axs) hw =
    tile_sum e w axs (λ t. sum (inner (ax e w ∷ axs) t) (λ v. 1)) (λ s. len_at e w s) (λ t. sum (inner axs t) (λ v. 1)) (λ s t. inner_size e w axs s t)
    ∙ ap₂ (λ a b. a * b) (lens e w hw.0) (inner-total axs hw.1)

-- the lengths of all blocks together
cells_of : (axs : List CutAxis) → Wide axs → sum (blocks_of axs) cells_in ≡ cell_count axs
cells_of axs hw = sum-map (counters axs) (block_at axs) cells_in ∙ sum_over (tiles axs) (in_tile axs) (length_at axs) ∙ go axs hw
  where
    go : (axs : List CutAxis) → Wide axs → sum (tiles axs) (λ t. sum (in_tile axs t) (length_at axs)) ≡ cell_count axs
    go [] hw = refl
    go (ax e w ∷ axs) hw =
        tile_sum e w axs (λ t. sum (in_tile (ax e w ∷ axs) t) (length_at (ax e w ∷ axs))) (λ s. len_at e w s) (λ t. sum (inner axs t) (λ v. 1))
        (λ s t. sum-map (inner axs t) (λ v. s ∷ v) (length_at (ax e w ∷ axs))
        ∙ sum_cong (inner axs t) (λ v. len_at e w s) (λ v. len_at e w s * 1) (λ v. omega arith)
        ∙ sum_scale (inner axs t) (λ v. 1) (len_at e w s))
        ∙ ap₂ (λ a b. a * b) (lens e w hw.0) (inner-total axs hw.1)

blocks_of_lem : (axs : List CutAxis) → Wide axs → length (blocks_of axs) ≡ block_count axs
blocks_of_lem axs hw = length-map (counters axs) (block_at axs) ∙ sym (sum_ones (counters axs)) ∙ sum_over (tiles axs) (in_tile axs) (λ c. 1) ∙ go axs hw
  where
    go : (axs : List CutAxis) → Wide axs → sum (tiles axs) (λ t. sum (in_tile axs t) (λ c. 1)) ≡ block_count axs
    go [] hw = refl
    go (ax e w ∷ axs) hw =
        tile_sum e w axs (λ t. sum (in_tile (ax e w ∷ axs) t) (λ c. 1)) (λ s. 1) (λ t. sum (inner axs t) (λ v. 1))
        (λ s t. sum-map (inner axs t) (λ v. s ∷ v) (λ c. 1) ∙ omega arith)
        ∙ ap₂ (λ a b. a * b) (sum_ones (starts_of e w)) (inner-total axs hw.1)

pub cut-total : (es bs : List ℕ) → cell_count (cut es bs) ≡ total es
cut-total [] bs = refl
cut-total (e ∷ es) [] = ap (λ n. e * n) (cut-total es [])
cut-total (e ∷ es) (b ∷ bs) = ap (λ n. e * n) (cut-total es bs)

-- Z: the blocks' lengths add up to the product of the extents
pub cells-total : (es bs : List ℕ) → sum (blocks_of (cut_axes es bs)) cells_in ≡ total es
cells-total es bs = cells_of (cut_axes es bs) (axes_wide es bs) ∙ cut-total es _

-- and to the layout's total, for a layout's plan with any block sizes
pub plan_cells : (es : List ℕ) (m : ℕ) (ss : List ℤ) (u : Purpose) (bs : List ℕ)
    → sum (blocks_of (cut_axes (extents (plan_axes es m ss u)) bs)) cells_in ≡ total es
plan_cells es m ss u bs = cells-total (extents (plan_axes es m ss u)) bs ∙ plan_total es m ss u

-- Z: a walk hands out as many blocks as the list has
pub blocks_number : (es bs : List ℕ) (n : ℕ) → (state_after (cut_axes es bs) n ≡ None) ↔ (length (blocks_of (cut_axes es bs)) ≤ n)
blocks_number es bs n =
    let axs = cut_axes es bs in
    let s = state-nth axs (axes_wide es bs) n in
    let e = nth_none (counters axs) n in
    let l = length-map (counters axs) (block_at axs) in
    ((λ h. let q = e.0 (sym s ∙ h) in omega arith), (λ h. s ∙ e.1 (omega arith)))

-- and how many they are
pub blocks_total : (es bs : List ℕ) → length (blocks_of (cut_axes es bs)) ≡ block_count (cut_axes es bs)
blocks_total es bs = blocks_of_lem (cut_axes es bs) (axes_wide es bs)
