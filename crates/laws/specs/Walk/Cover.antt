-- COVER: every index within the extents is a cell of the walk's blocks exactly once, and no other index is, whatever the block sizes.
-- Assumes nothing.
use Rattle.std.specs.Prelude.{◌≡◌, refl, Bool, true, false, cond, List, [], ◌∷◌, ◌++◌, map, ℕ, zero, suc, ◌+◌, ◌-◌, ◌*◌, ◌≤◌, ◌<◌, ltb, leb}
use Rattle.std.proofs.Common.{sym, ap, ap₂, ◌∙◌, append-nil, arith, ltb-true, ltb-false, leb-true, leb-false, lt-ltb}
use Rattle.std.proofs.Math.Nat.{sub-zero}
use Rattle.strided.specs.Base.{over, run}
use Rattle.strided.specs.Layout.{Within}
use Rattle.strided.specs.Walk.{CutAxis, ax, cut_axes, starts_from, starts_of, len_at, tiles, inner, in_tile, counters, block_at, blocks_of}
use Rattle.laws.specs.Base.Lists.{run-append}
use Rattle.laws.specs.Base.Sums.{sum, sum_cong, sum-zero, sum_scale, sum_scale_right, sum_over, sum-map}
use Rattle.laws.specs.Base.Counting.{same, same_list, count, run-whole, count-row, count_prod, nil_row, nil_prod}
use Rattle.laws.specs.Walk.States.{cells, Inside, Wide}
use Rattle.laws.specs.Walk.Cuts.{axes_wide, cut_inside}

-- 1 within the extents, else 0
abbrev pub in_range : List CutAxis → List ℕ → ℕ
in_range [] [] = 1
in_range [] (x ∷ xs) = 0
in_range (ax e w ∷ axs) [] = 0
in_range (ax e w ∷ axs) (x ∷ xs) = cond (ltb x e) 1 0 * in_range axs xs

-- ---- one axis

join : (e w s : ℕ) → s < e → run s (len_at e w s) ++ run (s + w) (e - (s + w)) ≡ run s (e - s)
join e w s h = go (leb w (e - s)) refl
  where
    go : (b : Bool) → leb w (e - s) ≡ b → run s (len_at e w s) ++ run (s + w) (e - (s + w)) ≡ run s (e - s)
    go true q =
        let l : w ≤ e - s = leb-true w (e - s) q in
        let m : len_at e w s ≡ w = omega arith in
        let d : w + (e - (s + w)) ≡ e - s = omega arith in
        ap (λ k. run s k ++ run (s + w) (e - (s + w))) m ∙ sym (run-append w (e - (s + w)) s) ∙ ap (run s) d
    go false q =
        let l : e - s < w = leb-false w (e - s) q in
        let m : len_at e w s ≡ e - s = omega arith in
        let d : e - (s + w) ≡ 0 = omega arith in
        ap₂ (λ j k. run s j ++ run (s + w) k) m d ∙ append-nil (run s (e - s))

-- the tiles of one axis, each run through, are the axis run through
pub tiles-run : (f e w s : ℕ) → 0 < w → e ≤ s + f → over (starts_from f e w s) (λ t. run t (len_at e w t)) ≡ run s (e - s)
tiles-run zero e w s hw h =
    let z : 0 ≡ e - s = omega arith in
    ap (run s) z
tiles-run (suc f) e w s hw h = go (ltb s e) refl (tiles-run f e w (s + w) hw (omega arith))
  where
    go : (b : Bool) → ltb s e ≡ b → over (starts_from f e w (s + w)) (λ t. run t (len_at e w t)) ≡ run (s + w) (e - (s + w))
        → over (cond b (s ∷ starts_from f e w (s + w)) []) (λ t. run t (len_at e w t)) ≡ run s (e - s)
    go true q ih = ap (λ r. run s (len_at e w s) ++ r) ih ∙ join e w s (ltb-true s e q)
    go false q ih =
        let z : 0 ≡ e - s = omega (arith, ltb-false s e q) in
        ap (run s) z

-- how often x is met on one axis
axis_sum : (e w x : ℕ) → 0 < w → sum (starts_of e w) (λ s. sum (run s (len_at e w s)) (same x)) ≡ cond (ltb x e) 1 0
axis_sum e w x hw =
    sym (sum_over (starts_of e w) (λ s. run s (len_at e w s)) (same x))
    ∙ ap (λ l. sum l (same x)) (tiles-run e e w 0 hw (omega arith))
    ∙ ap (λ k. sum (run 0 k) (same x)) (sub-zero e)
    ∙ run-whole e x

-- ---- products

-- a sum over tiles of what is a product at each
pub tile_sum : (e w : ℕ) (axs : List CutAxis) (f : List ℕ → ℕ) (r : ℕ → ℕ) (g : List ℕ → ℕ)
    → ((s : ℕ) (t : List ℕ) → f (s ∷ t) ≡ r s * g t)
    → sum (tiles (ax e w ∷ axs)) f ≡ sum (starts_of e w) r * sum (tiles axs) g
tile_sum e w axs f r g h =
    sum_over (tiles axs) (λ t. map (λ s. s ∷ t) (starts_of e w)) f
    ∙ sum_cong (tiles axs) (λ t. sum (map (λ s. s ∷ t) (starts_of e w)) f) (λ t. sum (starts_of e w) r * g t)
    (λ t. sum-map (starts_of e w) (λ s. s ∷ t) f
    ∙ sum_cong (starts_of e w) (λ s. f (s ∷ t)) (λ s. r s * g t) (λ s. h s t)
    ∙ sum_scale_right (starts_of e w) r (g t))
    ∙ sum_scale (tiles axs) g (sum (starts_of e w) r)

inner_nil : (e w : ℕ) (axs : List CutAxis) (t : List ℕ) → count [] (inner (ax e w ∷ axs) t) ≡ 0
inner_nil e w axs [] = refl
inner_nil e w axs (s ∷ t) = nil_prod (inner axs t) (run s (len_at e w s))

-- every index of every tile
pub inner-sum : (axs : List CutAxis) (x : List ℕ) → Wide axs → sum (tiles axs) (λ t. count x (inner axs t)) ≡ in_range axs x
inner-sum [] [] h = refl
inner-sum [] (x ∷ xs) h = refl
inner-sum (ax e w ∷ axs) [] h = sum-zero (tiles (ax e w ∷ axs)) (λ t. count [] (inner (ax e w ∷ axs) t)) (λ t. inner_nil e w axs t)
inner-sum (ax e w ∷ axs) (x ∷ xs) h =
    tile_sum e w axs (λ t. count (x ∷ xs) (inner (ax e w ∷ axs) t)) (λ s. sum (run s (len_at e w s)) (same x)) (λ t. count xs (inner axs t))
    (λ s t. count_prod x xs (inner axs t) (run s (len_at e w s)))
    ∙ ap₂ (λ j k. j * k) (axis_sum e w x h.0) (inner-sum axs xs h.1)

nil_tile : (e w : ℕ) (axs : List CutAxis) (t : List ℕ) → sum (in_tile (ax e w ∷ axs) t) (λ c. count [] (cells (block_at (ax e w ∷ axs) c))) ≡ 0
nil_tile e w axs [] = refl
nil_tile e w axs (s ∷ t) =
    sum-map (inner axs t) (λ v. s ∷ v) (λ c. count [] (cells (block_at (ax e w ∷ axs) c)))
    ∙ sum-zero (inner axs t) (λ v. count [] (map (λ k. k ∷ v) (run s (len_at e w s)))) (λ v. nil_row (run s (len_at e w s)) v)

-- how often an index is a cell of the blocks
pub cover : (axs : List CutAxis) (x : List ℕ) → Wide axs → count x (over (blocks_of axs) cells) ≡ in_range axs x
cover axs x h =
    sum_over (blocks_of axs) cells (same_list x)
    ∙ sum-map (counters axs) (block_at axs) (λ b. count x (cells b))
    ∙ sum_over (tiles axs) (in_tile axs) (λ c. count x (cells (block_at axs c)))
    ∙ in_tiles axs x h
  where
    in_tiles : (axs : List CutAxis) (x : List ℕ) → Wide axs → sum (tiles axs) (λ t. sum (in_tile axs t) (λ c. count x (cells (block_at axs c)))) ≡ in_range axs x
    in_tiles [] [] h = refl
    in_tiles [] (x ∷ xs) h = refl
    in_tiles (ax e w ∷ axs) [] h =
        sum-zero (tiles (ax e w ∷ axs)) (λ t. sum (in_tile (ax e w ∷ axs) t) (λ c. count [] (cells (block_at (ax e w ∷ axs) c)))) (λ t. nil_tile e w axs t)
    in_tiles (ax e w ∷ axs) (x ∷ xs) h =
        tile_sum e w axs (λ t. sum (in_tile (ax e w ∷ axs) t) (λ c. count (x ∷ xs) (cells (block_at (ax e w ∷ axs) c))))
        (λ s. sum (run s (len_at e w s)) (same x)) (λ t. count xs (inner axs t))
        (λ s t.
        sum-map (inner axs t) (λ v. s ∷ v) (λ c. count (x ∷ xs) (cells (block_at (ax e w ∷ axs) c)))
        ∙ sum_cong (inner axs t) (λ v. count (x ∷ xs) (map (λ k. k ∷ v) (run s (len_at e w s)))) (λ v. sum (run s (len_at e w s)) (same x) * same_list xs v)
        (λ v. count-row x xs (run s (len_at e w s)) v)
        ∙ sum_scale (inner axs t) (same_list xs) (sum (run s (len_at e w s)) (same x)))
        ∙ ap₂ (λ j k. j * k) (axis_sum e w x h.0) (inner-sum axs xs h.1)

-- ---- what the count means

pub inside_one : (axs : List CutAxis) (x : List ℕ) → Inside axs x → in_range axs x ≡ 1
inside_one [] [] h = refl
inside_one [] (x ∷ xs) h = absurd h
inside_one (ax e w ∷ axs) [] h = absurd h
inside_one (ax e w ∷ axs) (x ∷ xs) h = rw (lt-ltb x e h.0, inside_one axs xs h.1)

pub one_inside : (axs : List CutAxis) (x : List ℕ) → 0 < in_range axs x → Inside axs x
one_inside [] [] h = tt
one_inside [] (x ∷ xs) h = omega arith
one_inside (ax e w ∷ axs) [] h = omega arith
one_inside (ax e w ∷ axs) (x ∷ xs) h = go (ltb x e) refl h (one_inside axs xs)
  where
    go : (b : Bool) → ltb x e ≡ b → 0 < cond b 1 0 * in_range axs xs → (0 < in_range axs xs → Inside axs xs) → (x < e) × Inside axs xs
    go true q l ih = (ltb-true x e q, ih (omega arith))
    go false q l ih = absurd (omega arith)

pub in_range-one : (axs : List CutAxis) (x : List ℕ) → in_range axs x ≤ 1
in_range-one [] [] = omega arith
in_range-one [] (x ∷ xs) = omega arith
in_range-one (ax e w ∷ axs) [] = omega arith
in_range-one (ax e w ∷ axs) (x ∷ xs) = go (ltb x e) (in_range-one axs xs)
  where
    go : (b : Bool) → in_range axs xs ≤ 1 → cond b 1 0 * in_range axs xs ≤ 1
    go true h = omega arith
    go false h = omega arith

-- COVER, of document 01's blocks, for any extents and any block sizes
pub met_once : (es bs x : List ℕ) → Within es x → count x (over (blocks_of (cut_axes es bs)) cells) ≡ 1
met_once es bs x h = cover (cut_axes es bs) x (axes_wide es bs) ∙ inside_one (cut_axes es bs) x ((cut_inside es _ x).1 h)

pub met-within : (es bs x : List ℕ) → 0 < count x (over (blocks_of (cut_axes es bs)) cells) → Within es x
met-within es bs x m = (cut_inside es _ x).0 (one_inside (cut_axes es bs) x (rw (cover (cut_axes es bs) x (axes_wide es bs)) at m))
