-- REACH: a walk comes to exactly the counters that lie within the extents and, on axis 0, at the start of a tile; the counters after n steps
-- are those of block n.
-- Assumes nothing.
use Rattle.std.specs.Prelude.{◌≡◌, refl, ◌↔◌, List, [], ◌∷◌, ℕ, zero, suc, ◌+◌, ◌*◌, ◌/◌, ◌%◌, ◌≤◌, ◌<◌, Some}
use Rattle.std.proofs.Common.{sym, ap, ◌∙◌, div-add-mod', arith, lt-ltb}
use Rattle.std.proofs.Math.Nat.{zero-div}
use Rattle.strided.specs.Base.{nth}
use Rattle.strided.specs.Walk.{CutAxis, ax, starts_from, starts_of, tiles, inner, in_tile, counters, next}
use Rattle.laws.specs.Walk.States.{begin, Wide, Inside, state_after, Comes, OnStart}
use Rattle.laws.specs.Base.Sums.{sum, mul_pos, pos_mul, sum-zero, sum_scale, sum_over, sum-map, sum_pos, pos_sum}
use Rattle.laws.specs.Base.Counting.{same, same_list, count, same_eq, same_list_refl, same_list_pos, all_counted}
use Rattle.laws.specs.Base.Trace.{trace_after}
use Rattle.laws.specs.Walk.Cover.{in_range, tile_sum, inner-sum, inside_one, one_inside}
use Rattle.laws.specs.Walk.Chain.{IsStart, starts_all, chain}

-- ---- the starts of one axis

starts_have : (q f e w s x : ℕ) → 0 < w → x ≡ s + q * w → x < e → e ≤ s + f → 0 < sum (starts_from f e w s) (same x)
starts_have q zero e w s x hw k l h = absurd (omega arith)
starts_have zero (suc f) e w s x hw k l h =
    let p : s < e = omega arith in
    rw (lt-ltb s e p) (omega (arith, same_eq x s (omega arith)))
starts_have (suc q) (suc f) e w s x hw k l h =
    let p : s < e = omega arith in
    rw (lt-ltb s e p) (omega (arith, starts_have q f e w (s + w) x hw (omega arith) l (omega arith)))

starts_iff : (e w x : ℕ) → 0 < w → (0 < sum (starts_of e w) (same x)) ↔ ((x < e) × (x % w ≡ 0))
starts_iff e w x hw = (
  λ h. to (all_counted (IsStart e w) (starts_of e w) x (starts_all e e w 0 hw (rw (zero-div w) (omega arith))) h),
  λ h. starts_have (x / w) e e w 0 x hw (omega (arith, div-add-mod' x w, h.1)) h.0 (omega arith),
)
  where
    to : IsStart e w x → (x < e) × (x % w ≡ 0)
    to h = (h.0, omega (arith, div-add-mod' x w, h.1))

-- ---- how often c is a block's counters

counters-count : (e w : ℕ) (axs : List CutAxis) (x : ℕ) (xs : List ℕ) → Wide axs
    → count (x ∷ xs) (counters (ax e w ∷ axs)) ≡ sum (starts_of e w) (same x) * in_range axs xs
counters-count e w axs x xs hw =
    sum_over (tiles (ax e w ∷ axs)) (in_tile (ax e w ∷ axs)) (same_list (x ∷ xs))
    ∙ tile_sum e w axs (λ t. count (x ∷ xs) (in_tile (ax e w ∷ axs) t)) (same x) (λ t. count xs (inner axs t))
    (λ s t. sum-map (inner axs t) (λ v. s ∷ v) (same_list (x ∷ xs)) ∙ sum_scale (inner axs t) (same_list xs) (same x s))
    ∙ ap (λ k. sum (starts_of e w) (same x) * k) (inner-sum axs xs hw)

counters_nil : (e w : ℕ) (axs : List CutAxis) → count [] (counters (ax e w ∷ axs)) ≡ 0
counters_nil e w axs = sum_over (tiles (ax e w ∷ axs)) (in_tile (ax e w ∷ axs)) (same_list []) ∙ sum-zero (tiles (ax e w ∷ axs)) (λ t. count [] (in_tile (ax e w ∷ axs) t)) go
  where
    go : (t : List ℕ) → count [] (in_tile (ax e w ∷ axs) t) ≡ 0
    go [] = refl
    go (s ∷ t) = sum-map (inner axs t) (λ v. s ∷ v) (same_list []) ∙ sum-zero (inner axs t) (λ v. 0) (λ v. refl)

counters_iff : (axs : List CutAxis) (c : List ℕ) → Wide axs → (0 < count c (counters axs)) ↔ (Inside axs c × OnStart axs c)
counters_iff [] [] hw = (λ h. (tt, tt), λ h. omega arith)
counters_iff [] (x ∷ xs) hw = (λ h. absurd (omega arith), λ h. absurd h.0)
counters_iff (ax e w ∷ axs) [] hw = (λ h. absurd (omega (arith, counters_nil e w axs)), λ h. absurd h.0)
counters_iff (ax e w ∷ axs) (x ∷ xs) hw = (to, from)
  where
    to : 0 < count (x ∷ xs) (counters (ax e w ∷ axs)) → ((x < e) × Inside axs xs) × (x % w ≡ 0)
    to h =
        let p = mul_pos (sum (starts_of e w) (same x)) (in_range axs xs) (rw (counters-count e w axs x xs hw.1) at h) in
        let q = (starts_iff e w x hw.0).0 p.0 in
        ((q.0, one_inside axs xs p.1), q.1)

    from : ((x < e) × Inside axs xs) × (x % w ≡ 0) → 0 < count (x ∷ xs) (counters (ax e w ∷ axs))
    from h =
        rw (counters-count e w axs x xs hw.1)
        (pos_mul (sum (starts_of e w) (same x)) (in_range axs xs) ((starts_iff e w x hw.0).1 (h.0.0, h.1)) (omega (arith, inside_one axs xs h.0.1)))

-- ---- REACH

-- the state after n steps is element n of the counters
pub state-nth : (axs : List CutAxis) → Wide axs → (n : ℕ) → state_after axs n ≡ nth (counters axs) n
state-nth axs hw n = trace_after (next axs) (begin axs) (counters axs) (chain axs hw) n

pub reach : (axs : List CutAxis) (c : List ℕ) → Wide axs → Comes axs c ↔ (Inside axs c × OnStart axs c)
reach axs c hw = (to, from)
  where
    to : Comes axs c → Inside axs c × OnStart axs c
    to r = (counters_iff axs c hw).0 (pos_sum (same_list c) (counters axs) r.0 c (sym (state-nth axs hw r.0) ∙ r.1) (omega (arith, same_list_refl c)))

    from : Inside axs c × OnStart axs c → Comes axs c
    from h =
        let p = sum_pos (same_list c) (counters axs) ((counters_iff axs c hw).1 h) in
        (p.0, state-nth axs hw p.0 ∙ p.2 ∙ ap Some (sym (same_list_pos c p.1 p.3)))
