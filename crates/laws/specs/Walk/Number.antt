-- THE NUMBER OF A BLOCK, worked out from its counters: how many blocks come before the one at the counters c. It is told from c and the cut
-- axes alone, by three figures of the axes above 0: how many indices c's tile has, how many the tiles before it have together, and the place
-- of c in its own. Here with their bounds: the number is below the number of blocks, which is at most the total. Counted has that the number
-- is the place in document 01's list.
-- Assumes nothing.
use Rattle.std.specs.Prelude.{◌≡◌, refl, Bool, true, false, cond, List, [], ◌∷◌, ℕ, zero, suc, ◌+◌, ◌-◌, ◌*◌, ◌/◌, ◌≤◌, ◌<◌, ltb, length}
use Rattle.std.proofs.Common.{sym, ap, ◌∙◌, subst, mul-le-mul_left, mul-le-mul_right, div-lt_iff_lt-mul, div-add-mod', mod-lt, arith, ltb-true, ltb-false, lt-ltb}
use Rattle.std.proofs.Math.Nat.{add-div_right, div-eq_of_lt, lt-div-mul-add}
use Rattle.strided.specs.Layout.{total}
use Rattle.strided.specs.Walk.{CutAxis, ax, cut_axes, starts_from, starts_of, len_at, blocks_of}
use Rattle.laws.specs.Walk.States.{Wide, Inside}
use Rattle.laws.specs.Walk.Cuts.{axes_wide}
use Rattle.laws.specs.Walk.Chain.{starts_none}
use Rattle.laws.specs.Walk.Totals.{cell_count, block_count, cut-total, blocks_total}

-- how many indices the tile has that v is in
abbrev pub tile_size : List CutAxis → List ℕ → ℕ
tile_size [] v = 1
tile_size (ax e w ∷ axs) [] = 1
tile_size (ax e w ∷ axs) (k ∷ v) = len_at e w (k / w * w) * tile_size axs v

-- how many indices the tiles before it have together
abbrev pub tiles_before : List CutAxis → List ℕ → ℕ
tiles_before [] v = 0
tiles_before (ax e w ∷ axs) [] = 0
tiles_before (ax e w ∷ axs) (k ∷ v) = e * tiles_before axs v + k / w * w * tile_size axs v

-- the place of v among the indices of its tile, in mixed radix, the first axis quickest
abbrev pub place_in_tile : List CutAxis → List ℕ → ℕ
place_in_tile [] v = 0
place_in_tile (ax e w ∷ axs) [] = 0
place_in_tile (ax e w ∷ axs) (k ∷ v) = len_at e w (k / w * w) * place_in_tile axs v + (k - k / w * w)

-- THE NUMBER of the block at the counters c: axis 0 counts by whole tiles. Rank 0: one block, number 0
abbrev pub number_of : List CutAxis → List ℕ → ℕ
number_of [] c = 0
number_of (ax e w ∷ axs) [] = 0
number_of (ax e w ∷ axs) (s ∷ v) = length (starts_of e w) * tiles_before axs v + s / w * tile_size axs v + place_in_tile axs v

-- ---- bounds of numbers

most_step : (e s l b z n : ℕ) → s + l ≤ e → b + z ≤ n → e * b + s * z + l * z ≤ e * n
most_step e s l b z n h k =
    let p : (s + l) * z ≤ e * z = mul-le-mul_right z h in
    let q : e * (b + z) ≤ e * n = mul-le-mul_left e k in
    omega arith

place-step : (l p z d : ℕ) → p < z → d < l → l * p + d < l * z
place-step l p z d h k =
    let q : l * suc p ≤ l * z = mul-le-mul_left l h in
    omega arith

number_step : (t q b z p n : ℕ) → q < t → b + z ≤ n → p < z → t * b + q * z + p < t * n
number_step t q b z p n h k l =
    let a : suc q * z ≤ t * z = mul-le-mul_right z h in
    let m : t * (b + z) ≤ t * n = mul-le-mul_left t k in
    omega arith

-- ---- one axis

pub start_le : (k w : ℕ) → k / w * w ≤ k
start_le k w = omega (arith, div-add-mod' k w)

pub start_near : (k w : ℕ) → 0 < w → k < k / w * w + w
start_near k w hw = omega (arith, div-add-mod' k w, mod-lt k hw)

starts_count : (f e w s : ℕ) → 0 < w → s < e → e ≤ s + f → length (starts_from f e w s) ≡ (e - 1 - s) / w + 1
starts_count zero e w s hw h k = absurd (omega arith)
starts_count (suc f) e w s hw h k = rw (lt-ltb s e h) (go (ltb (s + w) e) refl (λ (l : s + w < e). starts_count f e w (s + w) hw l (omega arith)))
  where
    go : (b : Bool) → ltb (s + w) e ≡ b → (s + w < e → length (starts_from f e w (s + w)) ≡ (e - 1 - (s + w)) / w + 1)
        → suc (length (starts_from f e w (s + w))) ≡ (e - 1 - s) / w + 1
    go true q ih =
        let l : s + w < e = ltb-true (s + w) e q in
        let a : e - 1 - s ≡ e - 1 - (s + w) + w = omega arith in
        let d : (e - 1 - s) / w ≡ (e - 1 - (s + w)) / w + 1 = ap (λ n. n / w) a ∙ add-div_right (e - 1 - (s + w)) hw in
        omega (arith, ih l, d)
    go false q ih =
        let l : e ≤ s + w = ltb-false (s + w) e q in
        let d : (e - 1 - s) / w ≡ 0 = div-eq_of_lt (omega arith) in
        omega (arith, ap length (starts_none f e w (s + w) l), d)

-- how many tiles an axis has
pub tiles-count : (e w : ℕ) → 0 < w → 0 < e → length (starts_of e w) ≡ (e - 1) / w + 1
tiles-count e w hw he =
    let z : e - 1 - 0 ≡ e - 1 = omega arith in
    starts_count e e w 0 hw he (omega arith) ∙ ap (λ n. n / w + 1) z

starts_few : (f e w s : ℕ) → length (starts_from f e w s) ≤ f
starts_few zero e w s = omega arith
starts_few (suc f) e w s = go (ltb s e) (starts_few f e w (s + w))
  where
    go : (b : Bool) → length (starts_from f e w (s + w)) ≤ f → length (cond b (s ∷ starts_from f e w (s + w)) []) ≤ suc f
    go true h = omega arith
    go false h = omega arith

tile_below : (e w k : ℕ) → 0 < w → k < e → k / w < length (starts_of e w)
tile_below e w k hw h =
    rw (tiles-count e w hw (omega arith))
    ((div-lt_iff_lt-mul hw).1 (omega (arith, lt-div-mul-add {a = e - 1} hw)))

-- ---- the figures

pub before-most : (axs : List CutAxis) (v : List ℕ) → Wide axs → Inside axs v → tiles_before axs v + tile_size axs v ≤ cell_count axs
before-most [] [] hw h = omega arith
before-most [] (x ∷ v) hw h = absurd h
before-most (ax e w ∷ axs) [] hw h = absurd h
before-most (ax e w ∷ axs) (k ∷ v) hw h =
    most_step e (k / w * w) (len_at e w (k / w * w)) (tiles_before axs v) (tile_size axs v) (cell_count axs) (omega (arith, start_le k w, h.0)) (before-most axs v hw.1 h.1)

pub place-most : (axs : List CutAxis) (v : List ℕ) → Wide axs → Inside axs v → place_in_tile axs v < tile_size axs v
place-most [] [] hw h = omega arith
place-most [] (x ∷ v) hw h = absurd h
place-most (ax e w ∷ axs) [] hw h = absurd h
place-most (ax e w ∷ axs) (k ∷ v) hw h =
    place-step (len_at e w (k / w * w)) (place_in_tile axs v) (tile_size axs v) (k - k / w * w) (place-most axs v hw.1 h.1)
    (omega (arith, start_le k w, start_near k w hw.0, h.0))

-- ---- THE NUMBER

pub number-below : (axs : List CutAxis) (c : List ℕ) → Wide axs → Inside axs c → number_of axs c < block_count axs
number-below [] [] hw h = omega arith
number-below [] (x ∷ c) hw h = absurd h
number-below (ax e w ∷ axs) [] hw h = absurd h
number-below (ax e w ∷ axs) (s ∷ v) hw h =
    number_step (length (starts_of e w)) (s / w) (tiles_before axs v) (tile_size axs v) (place_in_tile axs v) (cell_count axs)
    (tile_below e w s hw.0 h.0) (before-most axs v hw.1 h.1) (place-most axs v hw.1 h.1)

pub blocks_most : (axs : List CutAxis) → block_count axs ≤ cell_count axs
blocks_most [] = omega arith
blocks_most (ax e w ∷ axs) = mul-le-mul_right (cell_count axs) (starts_few e e w 0)

-- of a plan's blocks
pub number_fits : (es bs c : List ℕ) → Inside (cut_axes es bs) c
    → (number_of (cut_axes es bs) c < length (blocks_of (cut_axes es bs))) × (length (blocks_of (cut_axes es bs)) ≤ total es)
number_fits es bs c h =
    let a : number_of (cut_axes es bs) c < block_count (cut_axes es bs) = number-below (cut_axes es bs) c (axes_wide es bs) h in
    let b : length (blocks_of (cut_axes es bs)) ≡ block_count (cut_axes es bs) = blocks_total es bs in
    let d : cell_count (cut_axes es bs) ≡ total es = cut-total es _ in
    (subst (λ (n : ℕ). number_of (cut_axes es bs) c < n) (sym b) a, subst (λ (n : ℕ). n ≤ total es) (sym b) (subst (λ (n : ℕ). block_count (cut_axes es bs) ≤ n) d (blocks_most (cut_axes es bs))))
