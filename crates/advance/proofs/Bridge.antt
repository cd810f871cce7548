-- The step on arrays is the step on lists: the counters. A carry lays the list that the machine makes over the array of counters.
-- Assumes nothing.
use mathlib.Core.Path.{◌≡◌, refl, sym, ap, ap₂, ◌∙◌, subst}
use mathlib.Core.Logic.{◌⊎◌, inl, inr}
use mathlib.Core.Bool.{Bool, true, false, cond}
use mathlib.Core.List.{List, [], ◌∷◌}
use Rattle.std.specs.Prelude.{Option, None, Some}
use Prim.Native.Nat.{ℕ, zero, suc, ◌+◌, ◌-◌, ◌*◌, ◌/◌, ◌%◌, ◌≤◌, ◌<◌, min}
use native.Mathlib.Nat.{div-add-mod', mul-div_cancel}
use native.Mathlib.Numerals.{add-one}
use native.Mathlib.Omega.{arith}
use lib.Dec.{ltb}
use lib.ListN.{length, get_or, take, set, length-set}
use lib.Seq.{get_or-set_other, set-get_or}
use borrow.Author.Tests.{ltb-true, ltb-false, lt-ltb, le-ltb}
use Rattle.strided.specs.Base.{padded, or_else}
use Rattle.strided.specs.Walk.{CutAxis, ax, len_at, next_in, next_start, next_inner, next_tile, tile_of, next, zeros}
use Rattle.laws.specs.Walk.States.{Inside, Wide}
use Rattle.laws.specs.Walk.Cuts.{length-zeros}
use Rattle.laws.specs.Base.Arrays.{length-padded, take_counted}
use Rattle.std.proofs.lemmas.List.{set-get_or}
use Rattle.advance.specs.Axis.{start_of, ahead, back, inside_goal, tile_goal, goal_of}
use Rattle.advance.specs.Carry.{Carried, carry_of, next_of}

-- ---- a list out of an array, and over an array

-- c elements from index i on
abbrev pub from : List ℕ → ℕ → ℕ → List ℕ
from a i zero = []
from a i (suc n) = get_or a i 0 ∷ from a (suc i) n

-- the array with v from index i on
abbrev pub overlay : List ℕ → ℕ → List ℕ → List ℕ
overlay c i [] = c
overlay c i (x ∷ v) = overlay (set c i x) (suc i) v

from_cons : (x : ℕ) (a : List ℕ) (i n : ℕ) → from (x ∷ a) (suc i) n ≡ from a i n
from_cons x a i zero = refl
from_cons x a i (suc n) = ap (λ (r : List ℕ). get_or a i 0 ∷ r) (from_cons x a (suc i) n)

pub from-take : (a : List ℕ) (n : ℕ) → n ≤ length a → from a 0 n ≡ take n a
from-take a zero h = refl
from-take [] (suc n) h = absurd (bad n h)
  where
    bad : (n : ℕ) → suc n ≤ 0 → ⊥
    bad n h = omega arith
from-take (x ∷ a) (suc n) h = ap (λ (r : List ℕ). x ∷ r) (from_cons x a 0 n ∙ from-take a n (omega arith))

pub from-set : (a : List ℕ) (j v i n : ℕ) → j < i → from (set a j v) i n ≡ from a i n
from-set a j v i zero h = refl
from-set a j v i (suc n) h = ap₂ (λ (x : ℕ) (r : List ℕ). x ∷ r) (get_or-set_other a j i v 0 (omega arith)) (from-set a j v (suc i) n (omega arith))

overlay_self : (c : List ℕ) (i n : ℕ) → i + n ≤ length c → overlay c i (from c i n) ≡ c
overlay_self c i zero h = refl
overlay_self c i (suc n) h =
    ap (λ (a : List ℕ). overlay a (suc i) (from c (suc i) n)) (set-get_or c i 0) ∙ overlay_self c (suc i) n (omega arith)

-- what lies behind is as it was
overlay-set : (c : List ℕ) (i x n : ℕ) → i + suc n ≤ length c → overlay (set c i x) (suc i) (from c (suc i) n) ≡ set c i x
overlay-set c i x n h =
    ap (overlay (set c i x) (suc i)) (sym (from-set c i x (suc i) n (omega arith)))
    ∙ overlay_self (set c i x) (suc i) n (subst (λ (l : ℕ). suc i + n ≤ l) (sym (length-set c i x)) (omega arith))

overlay_cons : (x : ℕ) (c : List ℕ) (i : ℕ) (v : List ℕ) → overlay (x ∷ c) (suc i) v ≡ x ∷ overlay c i v
overlay_cons x c i [] = refl
overlay_cons x c i (y ∷ v) = overlay_cons x (set c i y) (suc i) v

pub overlay-padded : (n : ℕ) (u v : List ℕ) → length u ≡ length v → length v ≤ n → overlay (padded n 0 u) 0 v ≡ padded n 0 v
overlay-padded n [] [] e h = refl
overlay-padded n [] (y ∷ v) e h = absurd (omega arith)
overlay-padded n (x ∷ u) [] e h = absurd (omega arith)
overlay-padded zero (x ∷ u) (y ∷ v) e h = absurd (bad (length v) h)
  where
    bad : (k : ℕ) → suc k ≤ 0 → ⊥
    bad k h = omega arith
overlay-padded (suc n) (x ∷ u) (y ∷ v) e h = overlay_cons y (padded n 0 u) 0 v ∙ ap (λ (r : List ℕ). y ∷ r) (overlay-padded n u v (omega arith) (omega arith))

-- ---- the cut axes of arrays

-- n axes from axis i on, of extents and block sizes in force
abbrev pub axes_at : List ℕ → List ℕ → ℕ → ℕ → List CutAxis
axes_at e ws i zero = []
axes_at e ws i (suc n) = ax (get_or e i 0) (get_or ws i 0) ∷ axes_at e ws (suc i) n

-- what a carry leaves: the list laid over the counters, ahead if there is a next one
abbrev pub laid : List ℕ → ℕ → List ℕ → Option (List ℕ) → Carried
laid c i t None = record { more = false; counters = overlay c i t }
laid c i t (Some v) = record { more = true; counters = overlay c i v }

-- ---- a carry: an axis that goes ahead ends it, one that goes back leaves it to the axes behind

module _ (inside : Bool) (e ws : List ℕ) (n i : ℕ) (c : List ℕ) (l : i + suc n ≤ length c) (b : ℕ) (t : List ℕ) where
  behind : (o : Option (List ℕ)) → laid (set c i b) (suc i) t o ≡ laid c i (b ∷ t) (or_else (or_else None (λ v. b ∷ v) o) (λ k. k ∷ from c (suc i) n) None)
  behind None = refl
  behind (Some v) = refl

  carry_step : (o : Option (List ℕ)) {q : Option ℕ} {y s : ℕ} → ((q ≡ Some y) × (goal_of inside (get_or e i 0) (get_or ws i 0) (get_or c i 0) ≡ ahead y s))
      ⊎ ((q ≡ None) × (goal_of inside (get_or e i 0) (get_or ws i 0) (get_or c i 0) ≡ back b))
      → carry_of inside e ws n (suc i) (set c i b) ≡ laid (set c i b) (suc i) t o
      → carry_of inside e ws (suc n) i c ≡ laid c i (b ∷ t) (or_else (or_else None (λ v. b ∷ v) o) (λ k. k ∷ from c (suc i) n) q)
  unfolding carry_of
  carry_step o {y = y} (inl p) r = rw (p.0, p.1) (ap {B = Carried} (λ (u : List ℕ). record { more = true; counters = u }) (sym (overlay-set c i y n l)))
  carry_step o (inr p) r = rw (p.0, p.1) (r ∙ behind o)

-- ---- inside a tile

div_le : (k w : ℕ) → k / w * w ≤ k
div_le k w = let h = div-add-mod' k w in omega (arith, h)

inside_step : (e w k : ℕ) → 0 < w → k < e
    → ((next_in (k / w * w + len_at e w (k / w * w)) k ≡ Some (k + 1)) × (goal_of true e w k ≡ ahead (k + 1) (start_of w k)))
    ⊎ ((next_in (k / w * w + len_at e w (k / w * w)) k ≡ None) × (goal_of true e w k ≡ back (k / w * w)))
unfolding goal_of inside_goal
inside_step e w k hw hk = go (ltb (k - s) (w - 1)) refl (ltb k (e - 1)) refl
  where
    s : ℕ
    s = k / w * w

    sk : s ≤ k
    sk = div_le k w

    go : (a : Bool) → ltb (k - s) (w - 1) ≡ a → (b : Bool) → ltb k (e - 1) ≡ b
        → ((next_in (s + len_at e w s) k ≡ Some (k + 1)) × (cond a (cond b (ahead (k + 1) s) (back s)) (back s) ≡ ahead (k + 1) s))
        ⊎ ((next_in (s + len_at e w s) k ≡ None) × (cond a (cond b (ahead (k + 1) s) (back s)) (back s) ≡ back s))
    go true p true q = inl (rw (lt-ltb (suc k) (s + min w (e - s)) (omega (arith, ltb-true (k - s) (w - 1) p, ltb-true k (e - 1) q, sk))) (ap Some (sym (add-one k))), refl)
    go true p false q = inr (rw (le-ltb (suc k) (s + min w (e - s)) (omega (arith, ltb-false k (e - 1) q, sk, hk))), refl)
    go false p b q = inr (rw (le-ltb (suc k) (s + min w (e - s)) (omega (arith, ltb-false (k - s) (w - 1) p, sk, hw))), refl)

inner_carry : (e ws : List ℕ) (n i : ℕ) (c : List ℕ) → Wide (axes_at e ws i n) → Inside (axes_at e ws i n) (from c i n) → i + n ≤ length c
    → carry_of true e ws n i c
    ≡ laid c i (tile_of (axes_at e ws i n) (from c i n)) (next_inner (axes_at e ws i n) (tile_of (axes_at e ws i n) (from c i n)) (from c i n))
unfolding carry_of
inner_carry e ws zero i c wd h l = refl
inner_carry e ws (suc n) i c wd h l =
    let axs : List CutAxis = axes_at e ws (suc i) n in
    let d : List ℕ = set c i (get_or c i 0 / get_or ws i 0 * get_or ws i 0) in
    let v : List ℕ = from c (suc i) n in
    let same : from d (suc i) n ≡ v = from-set c i _ (suc i) n (omega arith) in
    carry_step true e ws n i c l _ (tile_of axs v) (next_inner axs (tile_of axs v) v)
    (inside_step (get_or e i 0) (get_or ws i 0) (get_or c i 0) wd.0 h.0)
    (inner_carry e ws n (suc i) d wd.1 (subst (Inside axs) (sym same) h.1) (subst (λ (m : ℕ). suc i + n ≤ m) (sym (length-set c i _)) (omega arith))
    ∙ ap (λ (u : List ℕ). laid d (suc i) (tile_of axs u) (next_inner axs (tile_of axs u) u)) same)

-- ---- from tile to tile

tile_step : (e w s : ℕ) → start_of w s ≡ s
    → ((next_start e w s ≡ Some (s + w)) × (goal_of false e w s ≡ ahead (s + w) (s + w))) ⊎ ((next_start e w s ≡ None) × (goal_of false e w s ≡ back 0))
unfolding goal_of tile_goal
tile_step e w s q = rw q (go (ltb w (e - s)) refl)
  where
    go : (a : Bool) → ltb w (e - s) ≡ a
        → ((next_start e w s ≡ Some (s + w)) × (cond a (ahead (s + w) (s + w)) (back 0) ≡ ahead (s + w) (s + w))) ⊎ ((next_start e w s ≡ None) × (cond a (ahead (s + w) (s + w)) (back 0) ≡ back 0))
    go true p = inl (rw (lt-ltb (s + w) e (omega (arith, ltb-true w (e - s) p))), refl)
    go false p = inr (rw (le-ltb (s + w) e (omega (arith, ltb-false w (e - s) p))), refl)

-- every axis stands where its tile starts
tile_carry : (e ws : List ℕ) (n i : ℕ) (c : List ℕ) → tile_of (axes_at e ws i n) (from c i n) ≡ from c i n → i + n ≤ length c
    → carry_of false e ws n i c ≡ laid c i (zeros (axes_at e ws i n)) (next_tile (axes_at e ws i n) (from c i n))
unfolding carry_of
tile_carry e ws zero i c on l = refl
tile_carry e ws (suc n) i c on l =
    let axs : List CutAxis = axes_at e ws (suc i) n in
    let here : start_of (get_or ws i 0) (get_or c i 0) ≡ get_or c i 0 = cc in
    let v : List ℕ = from c (suc i) n in
    let there : tile_of axs v ≡ v = cc in
    let same : from (set c i 0) (suc i) n ≡ v = from-set c i 0 (suc i) n (omega arith) in
    carry_step false e ws n i c l 0 (zeros axs) (next_tile axs v)
    (tile_step (get_or e i 0) (get_or ws i 0) (get_or c i 0) here)
    (tile_carry e ws n (suc i) (set c i 0) (ap (tile_of axs) same ∙ there ∙ sym same) (subst (λ (m : ℕ). suc i + n ≤ m) (sym (length-set c i 0)) (omega arith))
    ∙ ap (λ (u : List ℕ). laid (set c i 0) (suc i) (zeros axs) (next_tile axs u)) same)

-- ---- the next block

length_tile : (axs : List CutAxis) (v : List ℕ) → length v ≡ length axs → length (tile_of axs v) ≡ length v
length_tile [] [] e = refl
length_tile [] (x ∷ v) e = absurd (omega arith)
length_tile (ax x w ∷ axs) [] e = refl
length_tile (ax x w ∷ axs) (k ∷ v) e = ap suc (length_tile axs v (omega arith))

tile_tile : (axs : List CutAxis) (v : List ℕ) → Wide axs → tile_of axs (tile_of axs v) ≡ tile_of axs v
tile_tile [] v h = refl
tile_tile (ax x w ∷ axs) [] h = refl
tile_tile (ax x w ∷ axs) (k ∷ v) h = ap₂ (λ (a : ℕ) (r : List ℕ). a ∷ r) (ap (λ (q : ℕ). q * w) (mul-div_cancel (k / w) h.0)) (tile_tile axs v h.1)

pub length-axes : (e ws : List ℕ) (i n : ℕ) → length (axes_at e ws i n) ≡ n
length-axes e ws i zero = refl
length-axes e ws i (suc n) = ap suc (length-axes e ws (suc i) n)

from-padded : (m n : ℕ) (v : List ℕ) → length v ≡ n → n ≤ m → from (padded m 0 v) 0 n ≡ v
from-padded m n v e h =
    from-take (padded m 0 v) n (subst (λ (k : ℕ). n ≤ k) (sym (length-padded 0 m v)) h) ∙ take_counted 0 m n v e h

-- an array of k places out of what comes next
abbrev pub put : ℕ → List ℕ → Option (List ℕ) → Carried
put k z None = record { more = false; counters = padded k 0 z }
put k z (Some c) = record { more = true; counters = padded k 0 c }

-- rank suc n, an array of suc m places; A its cut axes above axis 0
module _ (n m : ℕ) (e ws : List ℕ) (s : ℕ) (v : List ℕ) (lv : length v ≡ n) (hm : n ≤ m) (wd : Wide (axes_at e ws 0 (suc n))) where
  abbrev w : ℕ
  w = get_or ws 0 0

  abbrev A : List CutAxis
  A = axes_at e ws 1 n

  abbrev B : List CutAxis
  B = axes_at e ws 0 (suc n)

  long : (u : List ℕ) → suc n ≤ length (padded (suc m) 0 u)
  long u = subst (λ (k : ℕ). suc n ≤ k) (sym (length-padded 0 (suc m) u)) (omega arith)

  inner_part : Inside A v → carry_of true e ws n 1 (padded (suc m) 0 (s ∷ v)) ≡ laid (padded (suc m) 0 (s ∷ v)) 1 (tile_of A v) (next_inner A (tile_of A v) v)
  inner_part h =
      let q : from (padded (suc m) 0 (s ∷ v)) 1 n ≡ v = from_cons s (padded m 0 v) 0 n ∙ from-padded m n v lv hm in
      let l : 1 + n ≤ length (padded (suc m) 0 (s ∷ v)) = omega (arith, long (s ∷ v)) in
      inner_carry e ws n 1 (padded (suc m) 0 (s ∷ v)) wd.1 (subst (Inside A) (sym q) h) l
      ∙ ap (λ (u : List ℕ). laid (padded (suc m) 0 (s ∷ v)) 1 (tile_of A u) (next_inner A (tile_of A u) u)) q

  tile_part : (t : List ℕ) → length t ≡ n → tile_of B (s ∷ t) ≡ s ∷ t → ((y : List ℕ) → next_tile B (s ∷ t) ≡ Some y → length y ≡ suc n)
      → carry_of false e ws (suc n) 0 (padded (suc m) 0 (s ∷ t)) ≡ put (suc m) (zeros B) (next_tile B (s ∷ t))
  tile_part t lt on ly =
      let l : 0 + suc n ≤ length (padded (suc m) 0 (s ∷ t)) = omega (arith, long (s ∷ t)) in
      let q : from (padded (suc m) 0 (s ∷ t)) 0 (suc n) ≡ s ∷ t = from-padded (suc m) (suc n) (s ∷ t) (ap suc lt) (omega arith) in
      tile_carry e ws (suc n) 0 (padded (suc m) 0 (s ∷ t)) (ap (tile_of B) q ∙ on ∙ sym q) l
      ∙ ap (λ (u : List ℕ). laid (padded (suc m) 0 (s ∷ t)) 0 (zeros B) (next_tile B u)) q
      ∙ go (next_tile B (s ∷ t)) refl
    where
      go : (o : Option (List ℕ)) → next_tile B (s ∷ t) ≡ o → laid (padded (suc m) 0 (s ∷ t)) 0 (zeros B) o ≡ put (suc m) (zeros B) o
      go None q =
          let lz : length (zeros B) ≡ suc n = length-zeros B ∙ length-axes e ws 0 (suc n) in
          ap {B = Carried} (λ (u : List ℕ). record { more = false; counters = u }) (overlay-padded (suc m) (s ∷ t) (zeros B) (ap suc lt ∙ sym lz) (omega (arith, lz)))
      go (Some y) q =
          let l : length y ≡ suc n = ly y q in
          ap {B = Carried} (λ (u : List ℕ). record { more = true; counters = u }) (overlay-padded (suc m) (s ∷ t) y (ap suc lt ∙ sym l) (omega (arith, l)))

  pub next_carry : Inside B (s ∷ v) → s % w ≡ 0 → ((y : List ℕ) → next B (s ∷ v) ≡ Some y → length y ≡ suc n)
      → next_of (suc n) e ws (padded (suc m) 0 (s ∷ v)) ≡ put (suc m) (zeros B) (next B (s ∷ v))
  unfolding next_of
  next_carry h hs ly =
      let a : suc n - 1 ≡ n = omega arith in
      let z : suc n - 0 ≡ suc n = omega arith in
      rw (a, z, inner_part h.1) (go (next_inner A (tile_of A v) v) refl)
    where
      t : List ℕ
      t = tile_of A v

      lt : length t ≡ n
      lt = length_tile A v (lv ∙ sym (length-axes e ws 1 n)) ∙ lv

      start : s / w * w ≡ s
      start = let q = div-add-mod' s w in omega (arith, q, hs)

      on : tile_of B (s ∷ t) ≡ s ∷ t
      on = ap₂ (λ (a : ℕ) (r : List ℕ). a ∷ r) start (tile_tile A v wd.1)

      over-tail : (u : List ℕ) → length u ≡ n → overlay (padded (suc m) 0 (s ∷ v)) 1 u ≡ padded (suc m) 0 (s ∷ u)
      over-tail u lu = overlay_cons s (padded m 0 v) 0 u ∙ ap (λ (r : List ℕ). s ∷ r) (overlay-padded m v u (lv ∙ sym lu) (omega (arith, lu, hm)))

      go : (o : Option (List ℕ)) → next_inner A t v ≡ o
          → cond (laid (padded (suc m) 0 (s ∷ v)) 1 t o).more (laid (padded (suc m) 0 (s ∷ v)) 1 t o)
          (carry_of false e ws (suc n) 0 (laid (padded (suc m) 0 (s ∷ v)) 1 t o).counters)
          ≡ put (suc m) (zeros B) (or_else (next_tile B (s / w * w ∷ t)) (λ v'. s ∷ v') o)
      go (Some u) q =
          let ls : length (s ∷ u) ≡ suc n = ly (s ∷ u) (rw q) in
          ap {B = Carried} (λ (r : List ℕ). record { more = true; counters = r }) (over-tail u (omega (arith, ls)))
      go None q =
          rw (over-tail t lt, start) (tile_part t lt on (λ y g. ly y (rw (q, start) g)))
