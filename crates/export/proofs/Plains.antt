-- CELLS WITHOUT GAPS: where each stride is the product of the extents before its axis, the offsets of the indices, axis 0 quickest, are the
-- numbers from the start on. Where both operands lie so, the copy is one move of bytes.
-- Assumes nothing.
use Rattle.std.specs.Prelude.{◌≡◌, refl, Bool, true, false, cond, ◌&&◌, ◌||◌, ℕ, zero, suc, ◌+◌, ◌-◌, ◌*◌, ◌/◌, ◌^◌, ◌≤◌, ◌<◌, T, ltb, leb, ℤ, pos, negsuc, nat_abs, ◌+ℤ◌, ◌-ℤ◌, ◌*ℤ◌, length, None}
use Rattle.std.proofs.Common.{sym, ◌∙◌, subst, mul-zero, zero-mul, one-mul, suc-mul, zero-add, mul_comm, mul_assoc, add-mul, mul-le-mul_right, div-le_self, div-mul-le_self, le-mul_of_pos_right, le_trans, add-one, arith, ltb-true, lt-ltb}
use Rattle.std.proofs.Math.Path.{ap, ap₂}
use Rattle.std.proofs.Math.Bool.{not}
use Rattle.std.proofs.lemmas.Bool.{false≢true}
use mathlib.Core.List.{List, [], ◌∷◌, ◌++◌, map, map-map, map-append}
use Rattle.std.proofs.Math.IntN.{+ℤ_idr}
use Rattle.std.proofs.Math.ListN.{get_or}
use Rattle.std.specs.Int.Signed.{non_neg, pos-nat_abs}
use Rattle.strided.specs.Base.{over, run, some_of, unless}
use Rattle.strided.specs.Layout.{stride_row, total, has_zero, NoZero, dot, reach, reach_down, in_i64}
use Rattle.strided.specs.Refusals.{refused_by, row9, OffsetLeaves}
use Rattle.strided.specs.Mark.{Shared, stays_at, Way, ways, exceeds, rises, exact_mark, quick_mark, mark_of}
use Rattle.strided.specs.declared.Mark.{Mark}
use Rattle.strided.specs.declared.Mark.TheVariants.{No, Yes, Undecided}
use Rattle.laws.specs.Base.Tests.{both_and}
use Rattle.laws.specs.Base.Lists.{All, over_last, over-map, run-append}
use Rattle.laws.specs.Base.Refusals.{NoneApplies}
use Rattle.laws.specs.Base.Rows.{length_strides}
use Rattle.laws.specs.Mark.Exact.{apart_test}
use Rattle.laws.specs.Mark.Marks.{stays-shared}
use Rattle.laws.specs.Mark.Ordered.{Sorted, same}
use Rattle.laws.specs.Mark.Rises.{rises-apart, any_order}
use Rattle.laws.specs.Refusals.Rows.{none_refuses}
use Rattle.laws.specs.Refusals.Zeros.{no_zero_test}
use Rattle.laws.specs.Walk.Row9.{row9-leaves}
use Rattle.span.specs.Span.{in_cells, outside}
use Rattle.cells.specs.Copy.{Pair, pair, moved, copied}
use Rattle.cells.specs.Meaning.{copied-append, moved_none, moved-add}
use Rattle.cells.specs.Offsets.{place_at}
use Rattle.export.specs.Export.{offset_of, width_of, indices, cell_of, cells_of, exported, is_no, cell_rows}
use Rattle.export.specs.Rows.{Clean, clean}
use Rattle.export.proofs.Meaning.{into_cells, from-cells}
use Rattle.export.specs.Packed.{packed_from, Room, Plain}

-- ---- lists

map-over : {A B C : Type 0} (f : B → C) (l : List A) (g : A → List B) → map f (over l g) ≡ over l (λ (x : A). map f (g x))
map-over f [] g = refl
map-over {A} {B} {C} f (x ∷ l) g = map-append f (g x) (over l g) ∙ ap (λ (r : List C). map f (g x) ++ r) (map-over f l g)

-- a run that starts later
run_shift : {B : Type 0} (f : ℕ → B) (s n t : ℕ) → map (λ (k : ℕ). f (s + k)) (run t n) ≡ map f (run (s + t) n)
run_shift f s zero t = refl
run_shift {B} f s (suc n) t =
    let e : s + suc t ≡ suc (s + t) = omega arith in
    ap (λ (r : List B). f (s + t) ∷ r) (run_shift f s n (suc t) ∙ ap (λ (k : ℕ). map f (run k n)) e)

-- t runs of e numbers, one after the other
runs_joined : (e t : ℕ) → over (run 0 t) (λ (q : ℕ). run (q * e) e) ≡ run 0 (t * e)
runs_joined e zero = ap (run 0) (sym (zero-mul e))
runs_joined e (suc t) =
    let a : 0 + t ≡ t = zero-add t in
    let b : 0 + t * e ≡ t * e = zero-add (t * e) in
    let c : t * e + e ≡ suc t * e = omega arith in
    let d : t + 1 ≡ suc t = add-one t in
    ap (λ (k : ℕ). over (run 0 k) (λ (q : ℕ). run (q * e) e)) (sym d)
    ∙ ap (λ (l : List ℕ). over l (λ (q : ℕ). run (q * e) e)) (run-append t 1 0 ∙ ap (λ (k : ℕ). run 0 t ++ (k ∷ [])) a)
    ∙ over_last (run 0 t) t (λ (q : ℕ). run (q * e) e)
    ∙ ap (λ (l : List ℕ). l ++ run (t * e) e) (runs_joined e t)
    ∙ ap (λ (k : ℕ). run 0 (t * e) ++ run k e) (sym b)
    ∙ sym (run-append (t * e) e 0)
    ∙ ap (run 0) c

-- ---- the offsets

number : (n e q k : ℕ) → k * n + n * e * q ≡ n * (q * e + k)
number n e q k =
    let a : n * (q * e + k) ≡ (q * e + k) * n = mul_comm n (q * e + k) in
    let b : (q * e + k) * n ≡ q * e * n + k * n = add-mul (q * e) k n in
    let c : q * e * n ≡ n * e * q = mul_comm (q * e) n ∙ ap (λ (x : ℕ). n * x) (mul_comm q e) ∙ sym (mul_assoc n e q) in
    omega (arith, a, b, c)

-- index after index, n apart
pub dots_packed : (es : List ℕ) (n : ℕ) → map (λ (x : List ℕ). dot x (packed_from n es)) (indices es) ≡ map (λ (i : ℕ). pos (n * i)) (run 0 (total es))
dots_packed [] n = ap (λ (k : ℕ). pos k ∷ []) (sym (mul-zero n))
dots_packed (e ∷ es) n =
    map-over (λ (x : List ℕ). dot x (packed_from n (e ∷ es))) (indices es) (λ (v : List ℕ). map (λ (k : ℕ). k ∷ v) (run 0 e))
    ∙ ap (over (indices es)) (λ i v. map-map (λ (x : List ℕ). dot x (packed_from n (e ∷ es))) (λ (k : ℕ). k ∷ v) (run 0 e) i)
    ∙ sym (over-map (λ (v : List ℕ). dot v (packed_from (n * e) es)) (indices es) row)
    ∙ ap (λ (l : List ℤ). over l row) (dots_packed es (n * e))
    ∙ over-map (λ (q : ℕ). pos (n * e * q)) (run 0 (total es)) row
    ∙ ap (over (run 0 (total es))) (λ i q. (ap (λ (f : ℕ → ℤ). map f (run 0 e)) (λ j k. pos (number n e q k j)) ∙ run_shift at (q * e) e 0 ∙ ap (λ (k : ℕ). map at (run k e)) (let z : q * e + 0 ≡ q * e = omega arith in z)) i)
    ∙ sym (map-over at (run 0 (total es)) (λ (q : ℕ). run (q * e) e))
    ∙ ap (map at) (runs_joined e (total es) ∙ ap (run 0) (mul_comm (total es) e))
  where
    at : ℕ → ℤ
    at i = pos (n * i)

    row : ℤ → List ℤ
    row d = map (λ (k : ℕ). pos k *ℤ pos n +ℤ d) (run 0 e)

-- ---- the copy

-- cells one after the other on both sides are one move
pub run_moved : (w a b : ℕ) (dst src : List ℕ) (n : ℕ)
    → copied w (map (λ (i : ℕ). pair ((a + i) * w) ((b + i) * w)) (run 0 n)) dst src ≡ moved dst (a * w) src (b * w) (n * w)
unfolding copied
run_moved w a b dst src zero = moved_none dst (a * w) src (b * w) ∙ ap (moved dst (a * w) src (b * w)) (sym (zero-mul w))
run_moved w a b dst src (suc n) =
    let d : n + 1 ≡ suc n = add-one n in
    let z : 0 + n ≡ n = zero-add n in
    let c : n * w + w ≡ suc n * w = omega arith in
    ap (λ (k : ℕ). copied w (map cell (run 0 k)) dst src) (sym d)
    ∙ ap (λ (l : List ℕ). copied w (map cell l) dst src) (run-append n 1 0 ∙ ap (λ (k : ℕ). run 0 n ++ (k ∷ [])) z)
    ∙ ap (λ (l : List Pair). copied w l dst src) (map-append cell (run 0 n) (n ∷ []))
    ∙ copied-append w (map cell (run 0 n)) (cell n ∷ []) dst src
    ∙ ap (λ (l : List ℕ). moved l ((a + n) * w) src ((b + n) * w) w) (run_moved w a b dst src n)
    ∙ ap₂ (λ (x y : ℕ). moved (moved dst (a * w) src (b * w) (n * w)) x src y w) (add-mul a n w) (add-mul b n w)
    ∙ moved-add dst (a * w) src (b * w) (n * w) w
    ∙ ap (moved dst (a * w) src (b * w)) c
  where
    cell : ℕ → Pair
    cell i = pair ((a + i) * w) ((b + i) * w)

-- ---- row 17

packed_down : (es : List ℕ) (n : ℕ) → reach_down es (packed_from n es) ≡ 0
packed_down [] n = refl
packed_down (e ∷ es) n = zero-add (reach_down es (packed_from (n * e) es)) ∙ packed_down es (n * e)

last_one : (e n : ℕ) → 0 < e → (e - 1) * n + n ≡ n * e
last_one e n h =
    let b : suc (e - 1) * n ≡ (e - 1) * n + n = suc-mul (e - 1) n in
    let q : suc (e - 1) ≡ e = omega arith in
    sym b ∙ ap (λ (k : ℕ). k * n) q ∙ mul_comm e n

packed-reach : (es : List ℕ) (n : ℕ) → NoZero es → n + reach es (packed_from n es) ≡ n * total es
packed-reach [] n h = omega arith
packed-reach (e ∷ es) n h =
    let i : n * e + reach es (packed_from (n * e) es) ≡ n * e * total es = packed-reach es (n * e) h.1 in
    let a : n * e * total es ≡ n * (e * total es) = mul_assoc n e (total es) in
    let b : (e - 1) * n + n ≡ n * e = last_one e n h.0 in
    omega (arith, i, a, b)

-- an operand with room for all its cells leaves nothing outside
room-outside : (es : List ℕ) (t : List ℤ) (z : ℤ) (n : ℕ) → NoZero es → t ≡ packed_from 1 es → Room z (total es) n → outside es t z n ≡ false
unfolding outside
room-outside es t (negsuc a) n h e o = absurd o.from
room-outside es t (pos a) n h e o =
    let l : a + total es ≤ n = o.to in
    let d : reach_down es t ≡ 0 = ap (reach_down es) e ∙ packed_down es 1 in
    let r : 1 + reach es t ≡ total es = ap (λ (x : List ℤ). 1 + reach es x) e ∙ packed-reach es 1 h ∙ one-mul (total es) in
    let k : reach es t - reach_down es t ≡ reach es t = omega (arith, d) in
    let low : in_cells n (pos a -ℤ pos (reach_down es t)) ≡ true = ap (λ (j : ℕ). in_cells n (pos a -ℤ pos j)) d ∙ ap (in_cells n) (+ℤ_idr (pos a)) ∙ lt-ltb a n (omega (arith, r, l)) in
    let high : in_cells n (pos a +ℤ pos (reach es t - reach_down es t)) ≡ true = ap (λ (j : ℕ). in_cells n (pos a +ℤ pos j)) k ∙ lt-ltb (a + reach es t) n (omega (arith, r, l)) in
    ap₂ (λ (x y : Bool). not (has_zero es) && not (x && y)) low high ∙ ap (λ (b : Bool). not b && false) (no_zero_test es h)

-- ---- row 18: the strides rise as they stand, each above the reach of those before it

ways_above : (es : List ℕ) (n m : ℕ) → NoZero es → m ≤ n → All (λ (q : Way). m ≤ q.size) (ways es (packed_from n es))
ways_above [] n m h l = tt
ways_above (e ∷ es) n m h l = go (leb e 1) (ways_above es (n * e) m h.1 (le_trans l (le-mul_of_pos_right n h.0)))
  where
    go : (b : Bool) → All (λ (q : Way). m ≤ q.size) (ways es (packed_from (n * e) es))
        → All (λ (q : Way). m ≤ q.size) (unless b (record { extent = e; size = n }) (ways es (packed_from (n * e) es)))
    go true later = later
    go false later = (l, later)

ways_sorted : (es : List ℕ) (n : ℕ) → NoZero es → Sorted (ways es (packed_from n es))
unfolding Sorted
ways_sorted [] n h = tt
ways_sorted (e ∷ es) n h = go (leb e 1) (ways_sorted es (n * e) h.1)
  where
    go : (b : Bool) → Sorted (ways es (packed_from (n * e) es)) → Sorted (unless b (record { extent = e; size = n }) (ways es (packed_from (n * e) es)))
    go true later = later
    go false later = (ways_above es (n * e) n h.1 (le-mul_of_pos_right n h.0), later)

ways_exceed : (es : List ℕ) (n w : ℕ) → NoZero es → w < n → exceeds w (ways es (packed_from n es)) ≡ true
unfolding exceeds
ways_exceed [] n w h l = refl
ways_exceed (e ∷ es) n w h l =
    let m : (e - 1) * n + n ≡ n * e = last_one e n h.0 in
    go (leb e 1) (ways_exceed es (n * e) w h.1 (omega (arith, l, m))) (ways_exceed es (n * e) (w + (e - 1) * n) h.1 (omega (arith, l, m)))
  where
    go : (b : Bool) → exceeds w (ways es (packed_from (n * e) es)) ≡ true → exceeds (w + (e - 1) * n) (ways es (packed_from (n * e) es)) ≡ true
        → exceeds w (unless b (record { extent = e; size = n }) (ways es (packed_from (n * e) es))) ≡ true
    go true less more = less
    go false less more = both_and (ltb w n) (exceeds (w + (e - 1) * n) (ways es (packed_from (n * e) es))) (lt-ltb w n l) more

packed-length : (es : List ℕ) (n : ℕ) → length (packed_from n es) ≡ length es
packed-length [] n = refl
packed-length (e ∷ es) n = ap suc (packed-length es (n * e))

packed-rises : (es : List ℕ) → NoZero es → rises es (packed_from 1 es) ≡ true
packed-rises es h =
    sym (any_order es (packed_from 1 es) (ways es (packed_from 1 es)) same (ways_sorted es 1 h)) ∙ ways_exceed es 1 0 h (omega arith)

packed-apart : (es : List ℕ) → NoZero es → Shared es (packed_from 1 es) → ⊥
packed-apart es h = rises-apart es (packed_from 1 es) (packed-length es 1) (packed-rises es h)

pub packed_mark : (es : List ℕ) → NoZero es → mark_of es (packed_from 1 es) ≡ No
unfolding mark_of
packed_mark es h = ap (λ (b : Bool). cond b No (cond (leb (total es) 4096) (exact_mark es t) (quick_mark es t))) (no_zero_test es h) ∙ go (leb (total es) 4096)
  where
    t : List ℤ
    t = packed_from 1 es

    quick : (b : Bool) → some_of (stays_at es t) 0 (length es) ≡ b → cond b Yes (cond (rises es t) No Undecided) ≡ No
    quick true e = absurd (packed-apart es h (stays-shared es t (packed-length es 1) h e))
    quick false e = ap (λ (b : Bool). cond b No Undecided) (packed-rises es h)

    go : (b : Bool) → cond b (exact_mark es t) (quick_mark es t) ≡ No
    go true = ap (λ (b : Bool). cond b Yes No) (apart_test es t (packed-apart es h))
    go false = quick (some_of (stays_at es t) 0 (length es)) refl

-- ---- one move

-- bytes of so many cells
bytes_in : (a n w len : ℕ) → 0 < w → a + n ≤ len / w → a * w + n * w ≤ len
bytes_in a n w len h l =
    let m : (a + n) * w ≤ len / w * w = mul-le-mul_right w l in
    let d : len / w * w ≤ len = div-mul-le_self len w in
    let e : (a + n) * w ≡ a * w + n * w = add-mul a n w in
    omega (arith, m, d, e)

module _ (es sizes : List ℕ) (ss zs : List ℤ) (same : get_or sizes 0 0 ≡ get_or sizes 1 0)
    (to : stride_row ss (length es) 0 ≡ packed_from 1 es) (from : stride_row ss (length es) 1 ≡ packed_from 1 es)
    (a b : ℕ) (at : get_or zs 0 (pos 0) ≡ pos a) (out : get_or zs 1 (pos 0) ≡ pos b) where
  cells-packed : cells_of es sizes ss zs ≡ map (λ (i : ℕ). pair ((a + i) * width_of sizes) ((b + i) * width_of sizes)) (run 0 (total es))
  cells-packed =
      ap (λ (f : List ℕ → Pair). map f (indices es)) (λ j x. cell_is x j)
      ∙ sym (map-map cell (λ (x : List ℕ). dot x (packed_from 1 es)) (indices es))
      ∙ ap (map cell) (dots_packed es 1)
      ∙ map-map cell (λ (i : ℕ). pos (1 * i)) (run 0 (total es))
      ∙ ap (λ (f : ℕ → Pair). map f (run 0 (total es))) (λ j i. pair ((a + one-mul i j) * width_of sizes) ((b + one-mul i j) * width_of sizes))
    where
      cell : ℤ → Pair
      cell d = pair (place_at (width_of sizes) (pos a +ℤ d)) (place_at (width_of sizes) (pos b +ℤ d))

      cell_is : (x : List ℕ) → cell_of es sizes ss zs x ≡ cell (dot x (packed_from 1 es))
      cell_is x =
          ap₂ pair
          (ap₂ (λ (z : ℤ) (t : List ℤ). place_at (width_of sizes) (z +ℤ dot x t)) at to)
          (ap (λ (n : ℕ). place_at n (get_or zs 1 (pos 0) +ℤ dot x (stride_row ss (length es) 1))) (sym same) ∙ ap₂ (λ (z : ℤ) (t : List ℤ). place_at (width_of sizes) (z +ℤ dot x t)) out from)

  -- THE LAW: the copy by original indices is one move
  pub packed-exported : (dst src : List ℕ) → exported es sizes ss zs dst src ≡ moved dst (a * width_of sizes) src (b * width_of sizes) (total es * width_of sizes)
  unfolding exported
  packed-exported dst src =
      ap (λ (l : List Pair). copied (width_of sizes) l dst src) cells-packed ∙ run_moved (width_of sizes) a b dst src (total es)

-- ---- nothing is refused

-- cells that lie in their buffers have offsets that fit
cell_fits_64 : (n : ℕ) (z : ℤ) → n < 2 ^ 63 → in_cells n z ≡ true → in_i64 z ≡ true
cell_fits_64 n (pos a) h i = lt-ltb a (2 ^ 63) (let l = ltb-true a n i in omega (arith, l, h))
cell_fits_64 n (negsuc a) h i = absurd (false≢true i)

module _ {es sizes : List ℕ} {ss zs : List ℤ} {to from r : ℕ} (p : Plain es sizes ss zs to from r) where
  abbrev w : ℕ
  w = width_of sizes

  into_room : Room (get_or zs 0 (pos 0)) (total es) (to / get_or sizes 0 0)
  into_room = subst (λ (n : ℕ). Room (get_or zs 0 (pos 0)) n (to / get_or sizes 0 0)) p.gapless.cells p.into

  out-room : Room (get_or zs 1 (pos 0)) (total es) (from / get_or sizes 1 0)
  out-room = subst (λ (n : ℕ). Room (get_or zs 1 (pos 0)) n (from / get_or sizes 1 0)) p.gapless.cells p.out

  -- rows 16, 17 and 18
  pub plain_passes : refused_by (cell_rows es sizes ss zs to from) ≡ None
  unfolding NoneApplies
  plain_passes =
      none_refuses (cell_rows es sizes ss zs to from) (
        p.sixteen,
        (
          ap₂ (λ (a b : Bool). a || b)
              (room-outside es (stride_row ss (length es) 0) (get_or zs 0 (pos 0)) (to / get_or sizes 0 0) p.some p.gapless.to into_room)
              (room-outside es (stride_row ss (length es) 1) (get_or zs 1 (pos 0)) (from / get_or sizes 1 0) p.some p.gapless.from out-room),
          (ap (λ (m : Mark). not (is_no m)) (ap (mark_of es) p.gapless.to ∙ packed_mark es p.some), tt),
        ),
      )

  pub plain_clean : Clean es sizes ss zs to from
  plain_clean = clean es sizes ss zs to from plain_passes

  rows : (k : ℕ) → k < length sizes → length (stride_row ss (length es) k) ≡ length es
  rows k h = length_strides ss (length es) (length sizes) k p.strides h

  fewer : (len : ℕ) → len < 2 ^ 63 → len / w < 2 ^ 63
  fewer len h = let d = div-le_self len w in omega (arith, d, h)

  -- row 9 is within row 17
  none_leaves : OffsetLeaves es (length sizes) (stride_row ss (length es)) zs → ⊥
  none_leaves o = go o.operand (let t = plain_clean.two in let h = o.there in let g : o.operand < 2 = omega (arith, t, h) in g) o.outside
    where
      go : (k : ℕ) → k < 2 → in_i64 (offset_of es ss zs k o.index) ≡ false → ⊥
      go zero h e = false≢true (sym e ∙ cell_fits_64 (to / w) (offset_of es ss zs 0 o.index) (fewer to p.into_fits) (into_cells es sizes ss zs to from p.strides plain_clean o.index o.inside))
      go (suc zero) h e = false≢true (sym e ∙ cell_fits_64 (from / w) (offset_of es ss zs 1 o.index) (fewer from p.out_fits) (from-cells es sizes ss zs to from p.strides plain_clean o.index o.inside))
      go (suc (suc k)) h e = absurd (let z : ⊥ = omega arith in z)

  pub plain_row9 : (row9 es (length sizes) (stride_row ss (length es)) zs).applies ≡ false
  plain_row9 = go (row9 es (length sizes) (stride_row ss (length es)) zs).applies refl
    where
      go : (b : Bool) → (row9 es (length sizes) (stride_row ss (length es)) zs).applies ≡ b → (row9 es (length sizes) (stride_row ss (length es)) zs).applies ≡ false
      go true e = absurd (none_leaves ((row9-leaves es (length sizes) (stride_row ss (length es)) zs rows).0 e))
      go false e = e

  pub into_sign : T (non_neg (get_or zs 0 (pos 0)))
  into_sign = p.into.from

  pub out_sign : T (non_neg (get_or zs 1 (pos 0)))
  out_sign = p.out.from

  -- cells of the width b
  module _ {b : ℕ} (q : b ≡ width_of sizes) where
    -- the bytes of both operands lie in their buffers
    pub into_bytes : place_at b (get_or zs 0 (pos 0)) + r * b ≤ to
    into_bytes =
        subst (λ (n : ℕ). place_at n (get_or zs 0 (pos 0)) + r * n ≤ to) (sym q)
        (bytes_in (nat_abs (get_or zs 0 (pos 0))) r w to plain_clean.some p.into.to)

    pub out-bytes : place_at b (get_or zs 1 (pos 0)) + r * b ≤ from
    out-bytes =
        subst (λ (n : ℕ). place_at n (get_or zs 1 (pos 0)) + r * n ≤ from) (sym q)
        (bytes_in (nat_abs (get_or zs 1 (pos 0))) r w from plain_clean.some
        (subst (λ (n : ℕ). nat_abs (get_or zs 1 (pos 0)) + r ≤ from / n) (sym plain_clean.same) p.out.to))

    -- THE COPY of such operands
    pub plain_exported : (dst src : List ℕ) → exported es sizes ss zs dst src ≡ moved dst (place_at b (get_or zs 0 (pos 0))) src (place_at b (get_or zs 1 (pos 0))) (r * b)
    plain_exported dst src =
        packed-exported es sizes ss zs plain_clean.same p.gapless.to p.gapless.from (nat_abs (get_or zs 0 (pos 0))) (nat_abs (get_or zs 1 (pos 0)))
        (sym (pos-nat_abs (get_or zs 0 (pos 0)) into_sign)) (sym (pos-nat_abs (get_or zs 1 (pos 0)) out_sign)) dst src
        ∙ ap (λ (n : ℕ). moved dst (place_at w (get_or zs 0 (pos 0))) src (place_at w (get_or zs 1 (pos 0))) (n * w)) (sym p.gapless.cells)
        ∙ ap (λ (n : ℕ). moved dst (place_at n (get_or zs 0 (pos 0))) src (place_at n (get_or zs 1 (pos 0))) (r * n)) (sym q)
