-- CHAIN: the successor of counters hands out the counters of all blocks, in document 01's order, and then ends.
-- Assumes nothing.
use Rattle.std.specs.Prelude.{◌≡◌, refl, Bool, true, false, cond, List, [], ◌∷◌, map, ℕ, zero, suc, ◌+◌, ◌*◌, ◌/◌, ◌≤◌, ◌<◌, ltb, Option, None, Some}
use Rattle.std.proofs.Common.{sym, ap, ap₂, ◌∙◌, subst, arith, ltb-true, ltb-false, lt-ltb, le-ltb}
use Rattle.std.proofs.Math.Nat.{add-div_right, zero-div, div-eq_of_lt-le}
use Rattle.strided.specs.Base.{or_else, over, run}
use Rattle.strided.specs.Walk.{CutAxis, ax, starts_from, starts_of, len_at, tiles, inner, in_tile, counters, next_in, next_start, next_inner, next_tile, tile_of, next}
use Rattle.laws.specs.Base.Lists.{All, all_unit, all_map, all-over, run-all}
use Rattle.laws.specs.Base.Trace.{Trace, trace_map, trace_over}
use Rattle.laws.specs.Walk.States.{begin, Wide}

-- ---- one axis

trace_run : (n s end : ℕ) (m : Option ℕ) → 0 < n → s + n ≡ end → m ≡ Some s → Trace (next_in end) m (run s n) None
trace_run zero s end m h k e = absurd (omega arith)
trace_run (suc zero) s end m h k e =
    let q : end ≤ suc s = omega arith in
    (e, rw (le-ltb (suc s) end q))
trace_run (suc (suc n)) s end m h k e =
    let q : suc s < end = omega arith in
    (e, trace_run (suc n) (suc s) end (next_in end s) (omega arith) (omega arith) (rw (lt-ltb (suc s) end q)))

pub starts_none : (f e w s : ℕ) → e ≤ s → starts_from f e w s ≡ []
starts_none zero e w s h = refl
starts_none (suc f) e w s h = rw (le-ltb s e h)

trace_starts : (f e w s : ℕ) (m : Option ℕ) → 0 < w → s < e → e ≤ s + f → m ≡ Some s → Trace (next_start e w) m (starts_from f e w s) None
trace_starts zero e w s m hw h k q = absurd (omega arith)
trace_starts (suc f) e w s m hw h k q =
    rw (lt-ltb s e h) (q, go (ltb (s + w) e) refl (λ (l : s + w < e) (j : next_start e w s ≡ Some (s + w)). trace_starts f e w (s + w) (next_start e w s) hw l (omega arith) j))
  where
    go : (b : Bool) → ltb (s + w) e ≡ b
        → (s + w < e → next_start e w s ≡ Some (s + w) → Trace (next_start e w) (next_start e w s) (starts_from f e w (s + w)) None)
        → Trace (next_start e w) (next_start e w s) (starts_from f e w (s + w)) None
    go true p ih = ih (ltb-true (s + w) e p) (rw p)
    go false p ih = rw (starts_none f e w (s + w) (ltb-false (s + w) e p)) (rw p)

-- ---- one axis over another

odometer : (f : ℕ → Option ℕ) (d : ℕ) (ds : List ℕ) (g : List ℕ → Option (List ℕ)) (m : Option (List ℕ)) (l : List (List ℕ)) (h : List ℕ → Option (List ℕ))
    → ((k : ℕ) (v : List ℕ) → h (k ∷ v) ≡ or_else (or_else None (λ v'. d ∷ v') (g v)) (λ k'. k' ∷ v) (f k))
    → Trace f (Some d) ds None → Trace g m l None
    → Trace h (or_else None (λ v. d ∷ v) m) (over l (λ v. map (λ k. k ∷ v) ds)) None
odometer f d ds g m l h eq t u =
    trace_over g h (λ v. d ∷ v) (λ v. map (λ k. k ∷ v) ds) (λ v. Unit {0})
    (λ v _. trace_map f h (λ k. k ∷ v) (or_else None (λ v'. d ∷ v') (g v)) (λ k. Unit {0}) (λ k _. eq k v) (Some d) None ds (all_unit ds) t)
    m None l (all_unit l) u

over_nil : {A B : Type 0} (l : List A) (h : A → ℕ → B) → over l (λ t. map (h t) []) ≡ []
over_nil [] h = refl
over_nil (x ∷ xs) h = over_nil xs h

tiles_trace : (axs : List CutAxis) → Wide axs → Trace (next_tile axs) (begin axs) (tiles axs) None
tiles_trace [] hw = (refl, refl)
tiles_trace (ax e w ∷ axs) hw = go (ltb 0 e) refl (tiles_trace axs hw.1)
  where
    go : (b : Bool) → ltb 0 e ≡ b → Trace (next_tile axs) (begin axs) (tiles axs) None
        → Trace (next_tile (ax e w ∷ axs)) (cond b (or_else None (λ v. 0 ∷ v) (begin axs)) None) (tiles (ax e w ∷ axs)) None
    go true q ih =
        odometer (next_start e w) 0 (starts_of e w) (next_tile axs) (begin axs) (tiles axs) (next_tile (ax e w ∷ axs)) (λ s t. refl)
        (trace_starts e e w 0 (Some 0) hw.0 (ltb-true 0 e q) (omega arith) refl)
        ih
    go false q ih =
        let z : tiles (ax e w ∷ axs) ≡ [] =
        ap (λ l. over (tiles axs) (λ t. map (λ s. s ∷ t) l)) (starts_none e e w 0 (ltb-false 0 e q)) ∙ over_nil (tiles axs) (λ t s. s ∷ t) in
        rw z refl

-- ---- the starts of tiles

-- t is where a tile starts
abbrev pub IsTile : List CutAxis → List ℕ → Type 0
IsTile [] [] = Unit {0}
IsTile [] (x ∷ t) = ⊥
IsTile (ax e w ∷ axs) [] = ⊥
IsTile (ax e w ∷ axs) (s ∷ t) = (s < e) × (s / w * w ≡ s) × IsTile axs t

abbrev pub IsStart : ℕ → ℕ → ℕ → Type 0
IsStart e w s = (s < e) × (s / w * w ≡ s)

pub starts_all : (f e w s : ℕ) → 0 < w → s / w * w ≡ s → All (IsStart e w) (starts_from f e w s)
starts_all zero e w s hw k = tt
starts_all (suc f) e w s hw k = go (ltb s e) refl (starts_all f e w (s + w) hw up)
  where
    up : (s + w) / w * w ≡ s + w
    up = rw (add-div_right s hw) (omega arith)

    go : (b : Bool) → ltb s e ≡ b → All (IsStart e w) (starts_from f e w (s + w)) → All (IsStart e w) (cond b (s ∷ starts_from f e w (s + w)) [])
    go true q ih = ((ltb-true s e q, k), ih)
    go false q ih = tt

tiles-all : (axs : List CutAxis) → Wide axs → All (IsTile axs) (tiles axs)
tiles-all [] hw = (tt, tt)
tiles-all (ax e w ∷ axs) hw =
    all-over (IsTile axs) (IsTile (ax e w ∷ axs)) (λ t. map (λ s. s ∷ t) (starts_of e w)) (tiles axs)
    (λ t ht. all_map (IsStart e w) (IsTile (ax e w ∷ axs)) (λ s. s ∷ t) (starts_of e w) (λ s hs. (hs.0, hs.1, ht))
    (starts_all e e w 0 hw.0 (rw (zero-div w) (omega arith))))
    (tiles-all axs hw.1)

-- ---- inside a tile

-- all of a tile on one axis lies in that tile
same_tile : (w s k : ℕ) → 0 < w → s / w * w ≡ s → s ≤ k → k < s + w → k / w * w ≡ s
same_tile w s k hw e l h =
    let q : k / w ≡ s / w = div-eq_of_lt-le w (omega arith) (omega arith) in
    rw q e

tile_of_lem : (axs : List CutAxis) (t : List ℕ) → Wide axs → IsTile axs t → All (λ v. tile_of axs v ≡ t) (inner axs t)
tile_of_lem [] [] hw ht = (refl, tt)
tile_of_lem [] (x ∷ t) hw ht = absurd ht
tile_of_lem (ax e w ∷ axs) [] hw ht = absurd ht
tile_of_lem (ax e w ∷ axs) (s ∷ t) hw ht =
    all-over (λ v. tile_of axs v ≡ t) (λ v. tile_of (ax e w ∷ axs) v ≡ s ∷ t) (λ v. map (λ k. k ∷ v) (run s (len_at e w s))) (inner axs t)
    (λ v hv. all_map (λ k. (s ≤ k) × (k < s + w)) (λ v. tile_of (ax e w ∷ axs) v ≡ s ∷ t) (λ k. k ∷ v) (run s (len_at e w s))
    (λ k hk. ap₂ (λ a b. a ∷ b) (same_tile w s k hw.0 ht.1 hk.0 hk.1) hv)
    (run-all (len_at e w s) s s (s + w) (omega arith) (omega arith)))
    (tile_of_lem axs t hw.1 ht.2)

inner_trace : (axs : List CutAxis) (t : List ℕ) → Wide axs → IsTile axs t → Trace (next_inner axs t) (Some t) (inner axs t) None
inner_trace [] [] hw ht = (refl, refl)
inner_trace [] (x ∷ t) hw ht = absurd ht
inner_trace (ax e w ∷ axs) [] hw ht = absurd ht
inner_trace (ax e w ∷ axs) (s ∷ t) hw ht =
    odometer (next_in (s + len_at e w s)) s (run s (len_at e w s)) (next_inner axs t) (Some t) (inner axs t) (next_inner (ax e w ∷ axs) (s ∷ t)) (λ k v. refl)
    (trace_run (len_at e w s) s (s + len_at e w s) (Some s) (omega (arith, hw.0, ht.0)) refl refl)
    (inner_trace axs t hw.1 ht.2)

-- ---- CHAIN

same_end : {A : Type 0} (m : Option A) → m ≡ or_else None (λ (x : A). x) m
same_end None = refl
same_end (Some x) = refl

one_tile : (axs : List CutAxis) → Wide axs → (t : List ℕ) → IsTile axs t → Trace (next axs) (Some t) (in_tile axs t) (next_tile axs t)
one_tile [] hw [] ht = (refl, refl)
one_tile [] hw (x ∷ t) ht = absurd ht
one_tile (ax e w ∷ axs) hw [] ht = absurd ht
one_tile (ax e w ∷ axs) hw (s ∷ t) ht =
    trace_map (next_inner axs t) (next (ax e w ∷ axs)) (λ v. s ∷ v) (next_tile (ax e w ∷ axs) (s ∷ t)) (λ v. tile_of axs v ≡ t)
    (λ v hv. ap₂ (λ j u. or_else (next_tile (ax e w ∷ axs) (j ∷ u)) (λ v'. s ∷ v') (next_inner axs u v)) ht.1 hv)
    (Some t) None (inner axs t) (tile_of_lem axs t hw.1 ht.2) (inner_trace axs t hw.1 ht.2)

pub chain : (axs : List CutAxis) → Wide axs → Trace (next axs) (begin axs) (counters axs) None
chain axs hw =
    subst (λ (m : Option (List ℕ)). Trace (next axs) m (counters axs) None) (sym (same_end (begin axs)))
    (trace_over (next_tile axs) (next axs) (λ t. t) (in_tile axs) (IsTile axs)
    (λ t ht. subst (λ (m : Option (List ℕ)). Trace (next axs) (Some t) (in_tile axs t) m) (same_end (next_tile axs t)) (one_tile axs hw t ht))
    (begin axs) None (tiles axs) (tiles-all axs hw) (tiles_trace axs hw))
