-- THE NUMBER IS THE PLACE: the counters c of a block stand in document 01's list at `number_of c`, and after n steps the number is n.
-- Assumes nothing.
use Rattle.std.specs.Prelude.{◌≡◌, refl, List, [], ◌∷◌, map, ℕ, zero, suc, ◌+◌, ◌-◌, ◌*◌, ◌/◌, ◌≤◌, ◌<◌, length, Some}
use Rattle.std.proofs.Common.{sym, ap, ◌∙◌, subst, div-add-mod', arith, lt-ltb}
use Rattle.strided.specs.Base.{run, nth}
use Rattle.strided.specs.Walk.{CutAxis, ax, starts_from, starts_of, len_at, tiles, inner, in_tile, counters, tile_of, cell_at}
use Rattle.laws.specs.Base.Lists.{length_run}
use Rattle.laws.specs.Base.Sums.{sum, sum_cong, sum_ones, sum_scale_right, sum-map}
use Rattle.laws.specs.Walk.States.{Wide, Inside, OnStart, state_after}
use Rattle.laws.specs.Walk.Reach.{reach, state-nth}
use Rattle.laws.specs.Walk.Places.{MeetsPlan, length_pos, meets_once}
use Rattle.laws.specs.Walk.Totals.{lens, inner_size}
use Rattle.laws.specs.Walk.Number.{tile_size, tiles_before, place_in_tile, number_of, start_le, start_near}
use Rattle.laws.specs.Base.Positions.{Stands, stands_here, stands_there, stands_as, stands_scale, stands_scale_right, stands_nth, stands_map, stands_over}

abbrev one : {A : Type 0} → A → ℕ
one x = 1

-- ---- one axis

run_stands : (n s k : ℕ) → s ≤ k → k < s + n → Stands one (run s n) (k - s) k
run_stands n s k l h = go (k - s) n s (omega arith) (omega arith)
  where
    go : (j n s : ℕ) → k ≡ s + j → j < n → Stands one (run s n) j k
    go j zero s e h = absurd (omega arith)
    go zero (suc n) s e h = stands_here one (run (suc s) n) s k (omega arith)
    go (suc j) (suc n) s e h = stands_there one (run (suc s) n) j (suc j) s k (omega arith) (go j n (suc s) (omega arith) (omega arith))

-- tile number q of an axis: those before it weigh a each
starts_stand : (r : ℕ → ℕ) (a e w : ℕ) → ((s : ℕ) → s + w < e → r s ≡ a) → (q f s x : ℕ) → 0 < w → x ≡ s + q * w → x < e → e ≤ s + f
    → Stands r (starts_from f e w s) (q * a) x
starts_stand r a e w hr q zero s x hw k l h = absurd (omega arith)
starts_stand r a e w hr zero (suc f) s x hw k l h =
    let p : s < e = omega arith in
    let z : 0 ≡ 0 * a = omega arith in
    rw (lt-ltb s e p) (subst (λ (n : ℕ). Stands r (s ∷ starts_from f e w (s + w)) n x) z (stands_here r (starts_from f e w (s + w)) s x (omega arith)))
starts_stand r a e w hr (suc q) (suc f) s x hw k l h =
    let p : s < e = omega arith in
    let m : s + w ≤ x = omega arith in
    let g : r s ≡ a = hr s (omega arith) in
    rw (lt-ltb s e p)
    (stands_there r (starts_from f e w (s + w)) (q * a) (suc q * a) s x (omega (arith, g)) (starts_stand r a e w hr q f (s + w) x hw (omega arith) l (omega arith)))

-- ---- one axis over the others

-- the tiles of one axis more, weighed by a product
tiles_more : (e w : ℕ) (axs : List CutAxis) (f : List ℕ → ℕ) (r : ℕ → ℕ) (g : List ℕ → ℕ) (a n m s : ℕ) (t : List ℕ)
    → ((s : ℕ) (t : List ℕ) → f (s ∷ t) ≡ r s * g t) → sum (starts_of e w) r ≡ a
    → Stands r (starts_of e w) m s → Stands g (tiles axs) n t → Stands f (tiles (ax e w ∷ axs)) (a * n + m * g t) (s ∷ t)
tiles_more e w axs f r g a n m s t h k p q =
    stands_over (λ t. map (λ s. s ∷ t) (starts_of e w)) f (tiles axs) (a * n) (m * g t) t (s ∷ t)
    (stands_as (λ t. a * g t) (λ t. sum (map (λ s. s ∷ t) (starts_of e w)) f) (tiles axs) (a * n) (a * n) t
    (λ t. sym (sum-map (starts_of e w) (λ s. s ∷ t) f ∙ sum_cong (starts_of e w) (λ s. f (s ∷ t)) (λ s. r s * g t) (λ s. h s t)
    ∙ sum_scale_right (starts_of e w) r (g t) ∙ ap (λ b. b * g t) k))
    refl (stands_scale g (tiles axs) n a t q))
    (stands_map (λ s. s ∷ t) f (starts_of e w) (m * g t) s
    (stands_as (λ s. r s * g t) (λ s. f (s ∷ t)) (starts_of e w) (m * g t) (m * g t) s (λ s. sym (h s t)) refl
    (stands_scale_right r (starts_of e w) m (g t) s p)))

-- how many indices a tile has
abbrev many : List CutAxis → List ℕ → ℕ
many axs t = sum (inner axs t) one

row-many : (s l : ℕ) (v : List ℕ) → sum (map (λ k. k ∷ v) (run s l)) one ≡ l * 1
row-many s l v = sum-map (run s l) (λ k. k ∷ v) one ∙ omega (arith, sum_ones (run s l), length_run s l)

many_of_lem : (axs : List CutAxis) (v : List ℕ) → Inside axs v → many axs (tile_of axs v) ≡ tile_size axs v
many_of_lem [] [] h = refl
many_of_lem [] (x ∷ v) h = absurd h
many_of_lem (ax e w ∷ axs) [] h = absurd h
many_of_lem (ax e w ∷ axs) (k ∷ v) h = inner_size e w axs (k / w * w) (tile_of axs v) ∙ ap (λ m. len_at e w (k / w * w) * m) (many_of_lem axs v h.1)

-- ---- the tiles, and inside one

pub tiles_stand : (axs : List CutAxis) (v : List ℕ) → Wide axs → Inside axs v → Stands (many axs) (tiles axs) (tiles_before axs v) (tile_of axs v)
tiles_stand [] [] hw h = record { before = []; behind = []; split = refl; weighs = refl }
tiles_stand [] (x ∷ v) hw h = absurd h
tiles_stand (ax e w ∷ axs) [] hw h = absurd h
tiles_stand (ax e w ∷ axs) (k ∷ v) hw h =
    subst (λ (m : ℕ). Stands (many (ax e w ∷ axs)) (tiles (ax e w ∷ axs)) (e * tiles_before axs v + k / w * w * m) (k / w * w ∷ tile_of axs v))
    (many_of_lem axs v h.1)
    (tiles_more e w axs (many (ax e w ∷ axs)) (len_at e w) (many axs) e (tiles_before axs v) (k / w * w) (k / w * w) (tile_of axs v)
    (inner_size e w axs) (lens e w hw.0)
    (starts_stand (len_at e w) w e w (λ s l. omega arith) (k / w) e 0 (k / w * w) hw.0 (omega arith) (omega (arith, start_le k w, h.0)) (omega arith))
    (tiles_stand axs v hw.1 h.1))

pub inner_stand : (axs : List CutAxis) (v : List ℕ) → Wide axs → Inside axs v → Stands one (inner axs (tile_of axs v)) (place_in_tile axs v) v
inner_stand [] [] hw h = record { before = []; behind = []; split = refl; weighs = refl }
inner_stand [] (x ∷ v) hw h = absurd h
inner_stand (ax e w ∷ axs) [] hw h = absurd h
inner_stand (ax e w ∷ axs) (k ∷ v) hw h =
    stands_over (λ u. map (λ j. j ∷ u) (run (k / w * w) (len_at e w (k / w * w)))) one (inner axs (tile_of axs v)) (len_at e w (k / w * w) * place_in_tile axs v) (k - k / w * w) v (k ∷ v)
    (stands_as (λ u. len_at e w (k / w * w) * 1) (λ u. sum (map (λ j. j ∷ u) (run (k / w * w) (len_at e w (k / w * w)))) one) (inner axs (tile_of axs v))
    (len_at e w (k / w * w) * place_in_tile axs v) (len_at e w (k / w * w) * place_in_tile axs v) v
    (λ u. sym (row-many (k / w * w) (len_at e w (k / w * w)) u)) refl
    (stands_scale one (inner axs (tile_of axs v)) (place_in_tile axs v) (len_at e w (k / w * w)) v (inner_stand axs v hw.1 h.1)))
    (stands_map (λ j. j ∷ v) one (run (k / w * w) (len_at e w (k / w * w))) (k - k / w * w) k
    (run_stands (len_at e w (k / w * w)) (k / w * w) k (start_le k w) (omega (arith, start_le k w, start_near k w hw.0, h.0))))

-- ---- THE NUMBER

counters_stand : (axs : List CutAxis) (c : List ℕ) → Wide axs → Inside axs c → OnStart axs c → Stands one (counters axs) (number_of axs c) c
counters_stand [] [] hw h o = record { before = []; behind = []; split = refl; weighs = refl }
counters_stand [] (x ∷ c) hw h o = absurd h
counters_stand (ax e w ∷ axs) [] hw h o = absurd h
counters_stand (ax e w ∷ axs) (s ∷ v) hw h o =
    let on : s ≡ 0 + s / w * w = omega (arith, div-add-mod' s w, o) in
    stands_over (in_tile (ax e w ∷ axs)) one (tiles (ax e w ∷ axs)) (length (starts_of e w) * tiles_before axs v + s / w * tile_size axs v) (place_in_tile axs v)
    (s ∷ tile_of axs v) (s ∷ v)
    (subst (λ (m : ℕ). Stands (λ t. sum (in_tile (ax e w ∷ axs) t) one) (tiles (ax e w ∷ axs)) (length (starts_of e w) * tiles_before axs v + s / w * m) (s ∷ tile_of axs v))
    (many_of_lem axs v h.1)
    (tiles_more e w axs (λ t. sum (in_tile (ax e w ∷ axs) t) one) one (many axs) (length (starts_of e w)) (tiles_before axs v) (s / w) s (tile_of axs v)
    (λ s t. sum-map (inner axs t) (λ v. s ∷ v) one ∙ omega arith)
    (sum_ones (starts_of e w))
    (stands_as one one (starts_of e w) (s / w * 1) (s / w) s (λ y. refl) (omega arith)
    (starts_stand one 1 e w (λ s l. refl) (s / w) e 0 s hw.0 on h.0 (omega arith)))
    (tiles_stand axs v hw.1 h.1)))
    (stands_map (λ v. s ∷ v) one (inner axs (tile_of axs v)) (place_in_tile axs v) v (inner_stand axs v hw.1 h.1))

-- the counters c are those of block `number_of c`
pub number-nth : (axs : List CutAxis) (c : List ℕ) → Wide axs → Inside axs c → OnStart axs c → nth (counters axs) (number_of axs c) ≡ Some c
number-nth axs c hw h o = stands_nth (counters axs) (number_of axs c) c (counters_stand axs c hw h o)

-- no two blocks have the same counters
pub counters_once : (axs : List CutAxis) → Wide axs → (m n : ℕ) (c : List ℕ) → nth (counters axs) m ≡ Some c → nth (counters axs) n ≡ Some c → m ≡ n
counters_once axs hw m n c p q =
    let sm : state_after axs m ≡ Some c = state-nth axs hw m ∙ p in
    let sn : state_after axs n ≡ Some c = state-nth axs hw n ∙ q in
    let a : MeetsPlan axs m 0 (cell_at c 0) = record { c = c; state = sm; below = length_pos axs m c hw sm; index = refl } in
    let b : MeetsPlan axs n 0 (cell_at c 0) = record { c = c; state = sn; below = length_pos axs n c hw sn; index = refl } in
    (meets_once axs hw m 0 n 0 (cell_at c 0) a b).0

-- after n steps the number of the block handed out is n
pub number-after : (axs : List CutAxis) → Wide axs → (n : ℕ) (c : List ℕ) → state_after axs n ≡ Some c → number_of axs c ≡ n
number-after axs hw n c e =
    let r = (reach axs c hw).0 (n, e) in
    counters_once axs hw (number_of axs c) n c (number-nth axs c hw r.0 r.1) (sym (state-nth axs hw n) ∙ e)
