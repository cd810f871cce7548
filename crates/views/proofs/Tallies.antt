-- What the loop over the axes keeps: the three figures of the axes from some axis on, in arrays, and the room that each turn has. At the end
-- the number told is the block's place in document 01's list.
-- Assumes nothing.
use mathlib.Core.Path.{◌≡◌, sym, ap, ap₂, ◌∙◌, subst}
use mathlib.Core.List.{List}
use mathlib.Core.Logic.{⊎_elim}
use Prim.Native.Nat.{ℕ, zero, suc, ◌+◌, ◌-◌, ◌*◌, ◌/◌, ◌%◌, ◌^◌, ◌≤◌, ◌<◌, min}
use native.Mathlib.Nat.{mul-le-mul_right, div-mul-le_self, div-lt_iff_lt-mul}
use native.Mathlib.Omega.{arith}
use lib.ListN.{get_or, take, replicate, length-replicate}
use Rattle.std.proofs.lemmas.Grind.{div_ceil_times}
use Rattle.laws.specs.Base.Ranges.{below_or}
use Rattle.strided.specs.Walk.{CutAxis, cut_axes, len_at}
use Rattle.laws.specs.Walk.States.{Wide, Inside}
use Rattle.laws.specs.Walk.Cuts.{axes_wide}
use Rattle.laws.specs.Walk.Totals.{cell_count, block_count, cut-total}
use Rattle.laws.specs.Walk.Number.{tile_size, tiles_before, place_in_tile, number_of, tiles-count, before-most, place-most, number-below, blocks_most}
use Rattle.advance.specs.Filled.{filled_at}
use Rattle.strided.specs.declared.Plan.{Plan}
use Rattle.strided.specs.Step.{plan_cut_axes}
use Rattle.advance.specs.Axis.{width_at, widths}
use Rattle.advance.proofs.Axis.{start_whole}
use Rattle.advance.proofs.Bridge.{from, from-take, axes_at}
use Rattle.advance.proofs.Plans.{axes_are}
use Rattle.views.specs.declared.number.Tally.{Tally}
use Rattle.views.specs.Number.{block_number}
use Rattle.views.specs.Places.{number-place}
use Rattle.views.specs.Tally.{tallied, numbered, Room, First, Countable}

-- how many tiles an axis has
pub tiles_ceil : (e w : ℕ) → 0 < w → 0 < e → e / w + min 1 (e % w) ≡ (e - 1) / w + 1
tiles_ceil e w h p =
    let d : ℕ = e / w + min 1 (e % w) in
    let q : ℕ = (e - 1) / w in
    let t = div_ceil_times e w h in
    let u : (e - 1) / w * w ≤ e - 1 = div-mul-le_self (e - 1) w in
    let v : e - 1 < ((e - 1) / w + 1) * w = (div-lt_iff_lt-mul h).0 (let g : (e - 1) / w < (e - 1) / w + 1 = omega arith in g) in
    ⊎_elim
    (λ (a : q < d).
    ⊎_elim
    (λ (b : q + 1 < d). (let c : (q + 2) * w ≤ d * w = mul-le-mul_right w (let g : q + 2 ≤ d = omega arith in g) in absurd (omega (arith, t.0, t.1, u, v, c))))
    (λ (b : d ≤ q + 1). omega (arith, a, b))
    (below_or (q + 1) d))
    (λ (a : d ≤ q). (let c : d * w ≤ q * w = mul-le-mul_right w a in absurd (omega (arith, t.0, t.1, u, v, c))))
    (below_or q d)

-- ---- one axis more

-- blocks of 1 are tiles of their own
pub tallied_one : (e k : ℕ) (t : Tally) → k < e → record { before = e * t.before + k * t.size; size = t.size; place = t.place } ≡ tallied e 1 k t
unfolding tallied
tallied_one e k t h =
    let s : k ≡ k / 1 * 1 = omega arith in
    let one : len_at e 1 (k / 1 * 1) ≡ 1 = omega arith in
    let size : t.size ≡ len_at e 1 (k / 1 * 1) * t.size = rw one (omega arith) in
    let place : t.place ≡ len_at e 1 (k / 1 * 1) * t.place + (k - k / 1 * 1) = rw one (omega arith) in
    λ i. record { before = e * t.before + s i * t.size; size = size i; place = place i }

-- the first tile starts at 0
first_len : (e w k : ℕ) → k < w → min w e ≡ len_at e w (k / w * w)
first_len e w k h = let s : k / w * w ≡ 0 = start_whole w k h in omega (arith, s)

pub first_place : (e w k p : ℕ) → k < w → min w e * p + k ≡ len_at e w (k / w * w) * p + (k - k / w * w)
first_place e w k p h = let s : k / w * w ≡ 0 = start_whole w k h in rw (sym (first_len e w k h)) (omega (arith, s))

pub tallied_first : (e w k : ℕ) (t : Tally) → k < w → record { before = e * t.before; size = min w e * t.size; place = min w e * t.place + k } ≡ tallied e w k t
unfolding tallied
tallied_first e w k t h =
    let s : k / w * w ≡ 0 = start_whole w k h in
    let before : e * t.before ≡ e * t.before + k / w * w * t.size = rw s (omega arith) in
    λ i. record { before = before i; size = first_len e w k h i * t.size; place = first_place e w k t.place h i }

abbrev pub tally_of : List CutAxis → List ℕ → Tally
tally_of axs v = record { before = tiles_before axs v; size = tile_size axs v; place = place_in_tile axs v }

-- the axes of the arrays have blocks of 1 or more, the counters lie inside, and the total fits 64 bits
record Good (e w c : List ℕ) (i n : ℕ) : Type 0 where
  wide : Wide (axes_at e w i n)
  inside : Inside (axes_at e w i n) (from c i n)
  fits : cell_count (axes_at e w i n) < 2 ^ 64

-- ---- from one axis to the next

grows : (e n : ℕ) → 0 < e → n ≤ e * n
grows e n h = let q : 1 * n ≤ e * n = mul-le-mul_right n h in omega arith

good_next : (e w c : List ℕ) (i n : ℕ) → Good e w c i (suc n) → Good e w c (suc i) n
good_next e w c i n g =
    let h : get_or c i 0 < get_or e i 0 = g.inside.0 in
    let k : cell_count (axes_at e w (suc i) n) ≤ get_or e i 0 * cell_count (axes_at e w (suc i) n) = grows (get_or e i 0) (cell_count (axes_at e w (suc i) n)) (omega arith) in
    record { wide = g.wide.1; inside = g.inside.1; fits = omega (arith, k, g.fits) }

good_at : (e w c : List ℕ) (i n : ℕ) → Good e w c 0 (i + n) → Good e w c i n
good_at e w c zero n g = let q : 0 + n ≡ n = omega arith in subst (Good e w c 0) q g
good_at e w c (suc i) n g = let q : suc i + n ≡ i + suc n = omega arith in good_next e w c i n (good_at e w c i (suc n) (subst (Good e w c 0) q g))

room_at : (e w c : List ℕ) (j n : ℕ) → Good e w c j (suc n) → Room (get_or e j 0) (get_or w j 0) (get_or c j 0) (tally_of (axes_at e w (suc j) n) (from c (suc j) n))
room_at e w c j n g =
    let b = before-most (axes_at e w j (suc n)) (from c j (suc n)) g.wide g.inside in
    let p = place-most (axes_at e w j (suc n)) (from c j (suc n)) g.wide g.inside in
    record {
      wide = g.wide.0;
      below = g.inside.0;
      before = omega (arith, b, g.fits);
      size = omega (arith, b, g.fits);
      place = omega (arith, b, p, g.fits);
    }

-- ---- axis 0

module _ (n : ℕ) (e w c : List ℕ) (g : Good e w c 0 (suc n)) where
  abbrev T : Tally
  T = tally_of (axes_at e w 1 n) (from c 1 n)

  number_is : numbered (get_or e 0 0) (get_or w 0 0) (get_or c 0 0) T ≡ number_of (axes_at e w 0 (suc n)) (from c 0 (suc n))
  unfolding numbered
  number_is =
      let h : get_or c 0 0 < get_or e 0 0 = g.inside.0 in
      ap (λ t. t * T.before + get_or c 0 0 / get_or w 0 0 * T.size + T.place) (sym (tiles-count (get_or e 0 0) (get_or w 0 0) g.wide.0 (omega arith)))

  first-room : First (get_or e 0 0) (get_or w 0 0) (get_or c 0 0) T
  unfolding numbered
  first-room =
      let a : number_of (axes_at e w 0 (suc n)) (from c 0 (suc n)) < block_count (axes_at e w 0 (suc n)) =
      number-below (axes_at e w 0 (suc n)) (from c 0 (suc n)) g.wide g.inside in
      let b : block_count (axes_at e w 0 (suc n)) ≤ cell_count (axes_at e w 0 (suc n)) = blocks_most (axes_at e w 0 (suc n)) in
      record { wide = g.wide.0; below = g.inside.0; number = rw number_is (omega (arith, a, b, g.fits)) }

-- ---- a plan's arrays

-- the figures of the axes from i on
unfoldable pub tally_from : Plan → List ℕ → ℕ → Tally
tally_from p c i = tally_of (axes_at p.extents (widths p) i (p.rank - i)) (from c i (p.rank - i))

-- none is left
pub tally_none : (p : Plan) (c : List ℕ) → tally_from p c p.rank ≡ record { before = 0; size = 1; place = 0 }
unfolding tally_from
tally_none p c = let z : p.rank - p.rank ≡ 0 = omega arith in ap (λ n. tally_of (axes_at p.extents (widths p) p.rank n) (from c p.rank n)) z

module _ (p : Plan) (c : List ℕ) (k : Countable p c) where
  abbrev rank : ℕ
  rank = p.rank

  abbrev e : List ℕ
  e = p.extents

  -- the block sizes in force
  abbrev W : List ℕ
  W = widths p

  width_at_lem : (j : ℕ) → j < rank → get_or W j 0 ≡ width_at p j
  width_at_lem j h =
      let a : rank ≤ 64 = k.few in
      filled_at (replicate 64 0) (width_at p) 0 rank j h (subst (λ (n : ℕ). rank ≤ n) (sym (length-replicate {A = ℕ} 64 0)) a)

  axes : axes_at e W 0 rank ≡ plan_cut_axes p
  axes =
      let a : rank ≤ 64 = k.few in
      axes_are rank e p.blocks W (omega (arith, k.extents-all, a)) (omega (arith, k.blocks_all, a)) width_at_lem

  counters : from c 0 rank ≡ take rank c
  counters = let a : rank ≤ 64 = k.few in from-take c rank (omega (arith, k.counters-all, a))

  good : Good e W c 0 rank
  good =
      record {
        wide = subst Wide (sym axes) (axes_wide (take rank e) (take rank p.blocks));
        inside = subst (λ (l : List CutAxis). Inside l (from c 0 rank)) (sym axes) (subst (Inside (plan_cut_axes p)) (sym counters) k.inside);
        fits = subst (λ (l : List CutAxis). cell_count l < 2 ^ 64) (sym axes) (subst (λ (n : ℕ). n < 2 ^ 64) (sym (cut-total (take rank e) _)) k.fits);
      }

  module _ (j : ℕ) (h : j < rank) {w : ℕ} (is : w ≡ width_at p j) where
    pub tally_step : tallied (get_or p.extents j 0) w (get_or c j 0) (tally_from p c (j + 1)) ≡ tally_from p c j
    unfolding tally_from tallied
    tally_step =
        let s : j + 1 ≡ suc j = omega arith in
        let q : rank - j ≡ suc (rank - suc j) = omega arith in
        ap (λ v. tallied (get_or e j 0) v (get_or c j 0) (tally_from p c (j + 1))) (is ∙ sym (width_at_lem j h))
        ∙ ap (λ i. tallied (get_or e j 0) (get_or W j 0) (get_or c j 0) (tally_of (axes_at e W i (rank - i)) (from c i (rank - i)))) s
        ∙ sym (ap (λ n. tally_of (axes_at e W j n) (from c j n)) q)

    pub tally_room : Room (get_or p.extents j 0) w (get_or c j 0) (tally_from p c (j + 1))
    unfolding tally_from
    tally_room =
        let s : suc j ≡ j + 1 = omega arith in
        let q : rank ≡ j + suc (rank - suc j) = omega arith in
        subst (λ (v : ℕ). Room (get_or e j 0) v (get_or c j 0) (tally_from p c (j + 1))) (sym (is ∙ sym (width_at_lem j h)))
        (subst (λ (i : ℕ). Room (get_or e j 0) (get_or W j 0) (get_or c j 0) (tally_of (axes_at e W i (rank - i)) (from c i (rank - i)))) s
        (room_at e W c j (rank - suc j) (good_at e W c j (suc (rank - suc j)) (subst (Good e W c 0) q good))))

  module _ (h : 0 < p.rank) {w : ℕ} (is : w ≡ width_at p 0) where
    whole : Good e W c 0 (suc (rank - 1))
    whole = let q : rank ≡ suc (rank - 1) = omega arith in subst (Good e W c 0) q good

    pub tally_first : First (get_or p.extents 0 0) w (get_or c 0 0) (tally_from p c 1)
    unfolding tally_from
    tally_first =
        subst (λ (v : ℕ). First (get_or e 0 0) v (get_or c 0 0) (tally_from p c 1)) (sym (is ∙ sym (width_at_lem 0 h)))
        (first-room (rank - 1) e W c whole)

    -- the number told is the block's place
    pub tally_number : numbered (get_or p.extents 0 0) w (get_or c 0 0) (tally_from p c 1) ≡ block_number (plan_cut_axes p) (take p.rank c)
    unfolding tally_from
    tally_number =
        let q : rank ≡ suc (rank - 1) = omega arith in
        ap (λ v. numbered (get_or e 0 0) v (get_or c 0 0) (tally_from p c 1)) (is ∙ sym (width_at_lem 0 h))
        ∙ number_is (rank - 1) e W c whole ∙ ap (λ r. number_of (axes_at e W 0 r) (from c 0 r)) (sym q)
        ∙ ap₂ number_of axes counters
        ∙ number-place (plan_cut_axes p) (take rank c) (axes_wide (take rank e) (take rank p.blocks)) k.inside k.starts

-- rank 0: one block, number 0
pub number_none : (p : Plan) (c : List ℕ) → p.rank ≡ 0 → 0 ≡ block_number (plan_cut_axes p) (take p.rank c)
unfolding block_number
number_none p c z = sym (ap (λ n. block_number (cut_axes (take n p.extents) (take n p.blocks)) (take n c)) z)
