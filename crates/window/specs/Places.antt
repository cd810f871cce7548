-- PLACES: the stride at place j of the window's flat list is that of axis j % rank, stepped. And no stride leaves 64 bits unless the parent
-- has an extent of 0. Assumes nothing.
use Rattle.std.specs.Prelude.{◌≡◌, refl, Bool, true, false, not, ltb, pos, nat_abs, length, drop}
use Rattle.std.proofs.Math.Path.{sym, ap}
use Rattle.std.proofs.Common.{◌∙◌, subst, le_trans, mul-le-mul_left, mod-lt, div-add-mod', div-lt_iff_lt-mul, zero-mul, get_or-take, get_or-drop, ltb-false, lt-ltb}
use mathlib.Core.List.{List, [], ◌∷◌}
use Prim.Native.Nat.{ℕ, zero, suc, ◌+◌, ◌-◌, ◌*◌, ◌/◌, ◌%◌, ◌^◌, ◌≤◌, ◌<◌}
use Rattle.std.proofs.Math.Nat.{mul_comm, mod-add-mod}
use Rattle.std.proofs.lemmas.Bool.{not-false}
use native.Mathlib.Omega.{arith}
use Rattle.std.proofs.Math.IntN.{ℤ}
use Rattle.std.proofs.Math.ListN.{get_or}
use Rattle.std.specs.Int.Signed.{mag}
use Rattle.strided.specs.Base.{over, run, some_of}
use Rattle.strided.specs.Layout.{stride_row, reach, in_i64, max_i}
use Rattle.laws.specs.Base.Integers.{mag_size}
use Rattle.laws.specs.Base.Rows.{length_strides, stride_at, length_over, row-over}
use Rattle.laws.specs.Refusals.Operands.{some_of_at, some_of_none}
use Rattle.laws.specs.Refusals.Reaches.{term_reach}
use Rattle.window.specs.Window.{stepped_stride, stepped_row, window_strides, stride_over}
use Rattle.window.specs.Axes.{AxisLies, axis_stride}
use Rattle.window.specs.Indices.{Lies, lies_counted, lies_at}
use Rattle.window.specs.Counted.{Counted}
use Rattle.layout.specs.Fitting.{Fitting}
use Rattle.window.specs.Layouts.{length-stepped}

get_d_stepped : (ns : List ℕ) (st ts : List ℤ) (i : ℕ) → i < length ns → length st ≡ length ns → length ts ≡ length ns
    → get_or (stepped_row ns st ts) i (pos 0) ≡ stepped_stride (get_or ns i 0) (get_or st i (pos 0)) (get_or ts i (pos 0))
get_d_stepped [] st ts i h p q = absurd (bad h)
  where
    bad : i < 0 → ⊥
    bad h = omega arith
get_d_stepped (n ∷ ns) [] ts i h p q = absurd (omega arith)
get_d_stepped (n ∷ ns) (s ∷ st) [] i h p q = absurd (omega arith)
get_d_stepped (n ∷ ns) (s ∷ st) (t ∷ ts) zero h p q = refl
get_d_stepped (n ∷ ns) (s ∷ st) (t ∷ ts) (suc i) h p q = get_d_stepped ns st ts i (omega arith) (omega arith) (omega arith)

some_rank : (rank operands j : ℕ) → j < rank * operands → 0 < rank
some_rank zero operands j h = absurd (omega (arith, zero-mul operands, h))
some_rank (suc r) operands j h = omega arith

module _ {fs : List ℕ} (ns : List ℕ) (st ss : List ℤ) (rank operands : ℕ) (c : Counted rank fs ns st) (all : length ss ≡ rank * operands) where
  rows : (j : ℕ) → j < operands → length (stride_row ss rank j) ≡ length ns
  rows j h = length_strides ss rank operands j all h ∙ sym c.counts

  even : (j : ℕ) → 0 ≤ j → j < 0 + operands → length (stepped_row ns st (stride_row ss rank j)) ≡ rank
  even j a b = length-stepped ns st (stride_row ss rank j) (c.steps ∙ sym c.counts) (rows j (omega arith)) ∙ c.counts

  -- as many as the parent has
  pub window_length : length (window_strides ns st ss rank operands) ≡ length ss
  unfolding window_strides
  window_length =
      length_over rank (λ k. stepped_row ns st (stride_row ss rank k)) operands 0 even ∙ mul_comm operands rank ∙ sym all

  module _ (j : ℕ) (h : j < length ss) where
    pub rank_some : 0 < rank
    rank_some = some_rank rank operands j (subst (λ (n : ℕ). j < n) all h)

    mod_below : j % rank < rank
    mod_below = mod-lt j rank_some

    operand_below : j / rank < operands
    operand_below = (div-lt_iff_lt-mul rank_some).1 (omega (arith, h, all, mul_comm operands rank))

    split : j / rank * rank + j % rank ≡ j
    split = div-add-mod' j rank

    mod-at : get_or (window_strides ns st ss rank operands) j (pos 0)
        ≡ stepped_stride (get_or ns (j % rank) 0) (get_or st (j % rank) (pos 0)) (get_or ss j (pos 0))
    unfolding window_strides
    mod-at =
        let k : ℕ = j / rank in
        let i : ℕ = j % rank in
        let row : ℕ → List ℤ = λ k. stepped_row ns st (stride_row ss rank k) in
        let ws : List ℤ = over (run 0 operands) row in
        let z : 0 + k ≡ k = omega arith in
        ap (λ (n : ℕ). get_or ws n (pos 0)) (sym split) ∙ sym (get_or-drop (k * rank) ws i (pos 0)) ∙ sym (get_or-take rank (drop (k * rank) ws) i (pos 0) mod_below)
        ∙ ap (λ (l : List ℤ). get_or l i (pos 0)) (row-over rank row operands 0 k even operand_below ∙ ap row z)
        ∙ get_d_stepped ns st (stride_row ss rank k) i (omega (arith, mod_below, c.counts)) (c.steps ∙ sym c.counts) (rows k operand_below)
        ∙ ap (stepped_stride (get_or ns i 0) (get_or st i (pos 0))) (stride_at ss rank k i mod_below ∙ ap (λ (n : ℕ). get_or ss n (pos 0)) split)

    -- i is the axis of place j
    module _ (i : ℕ) (q : i ≡ j % rank) where
      -- it is there
      pub axis_below : i < rank
      axis_below = omega (arith, mod_below)

      pub window_at_lem : get_or (window_strides ns st ss rank operands) j (pos 0) ≡ stepped_stride (get_or ns i 0) (get_or st i (pos 0)) (get_or ss j (pos 0))
      window_at_lem = rw q mod-at

      -- the test at place j
      pub over-at : {b : Bool} → b ≡ not (in_i64 (stepped_stride (get_or ns i 0) (get_or st i (pos 0)) (get_or ss j (pos 0))))
          → b ≡ stride_over (window_strides ns st ss rank operands) j
      over-at e = e ∙ sym (ap (λ (z : ℤ). not (in_i64 z)) window_at_lem)

      -- where no stride leaves, the one at place j fits
      pub held_at : some_of (stride_over (window_strides ns st ss rank operands)) 0 (length (window_strides ns st ss rank operands)) ≡ false
          → in_i64 (stepped_stride (get_or ns i 0) (get_or st i (pos 0)) (get_or ss j (pos 0))) ≡ true
      held_at q =
          let ws : List ℤ = window_strides ns st ss rank operands in
          sym (ap in_i64 window_at_lem) ∙ not-false (in_i64 (get_or ws j (pos 0))) (some_of_at (stride_over ws) (length ws) q j (omega (arith, h, window_length)))

      -- and the axis of the next place
      pub axis_next : (i + 1) % rank ≡ (j + 1) % rank
      axis_next = ap (λ (n : ℕ). (n + 1) % rank) q ∙ mod-add-mod j rank 1

-- so many places as the array has
pub few_places : (ss : List ℤ) (rank operands : ℕ) → Fitting ss rank operands → length ss ≤ 512
few_places ss rank operands f =
    let a : rank * operands ≤ rank * 8 = mul-le-mul_left rank f.operands_few in
    omega (arith, a, f.rank-few, f.strides_all)

-- ---- a new stride can leave 64 bits only beside an extent of 0

stepped_fits : (e f n : ℕ) (s t : ℤ) → AxisLies e f n s → in_i64 t ≡ true → (e - 1) * nat_abs t ≤ max_i → in_i64 (stepped_stride n s t) ≡ true
stepped_fits e f n s t a h r = go (ltb n 2) refl
  where
    long : ltb n 2 ≡ false → nat_abs (stepped_stride n s t) ≤ max_i
    long q = le_trans (axis_stride e f n s a t (ltb-false n 2 q)) r

    go : (b : Bool) → ltb n 2 ≡ b → in_i64 (stepped_stride n s t) ≡ true
    go true q = rw q h
    go false q = lt-ltb (mag (stepped_stride n s t)) (2 ^ 63) (omega (arith, mag_size (stepped_stride n s t), long q))

-- WHERE ROW 6 BOUNDS THE REACHES, as it does if no extent is 0, and the parent's strides are 64-bit signed, no stride of the window leaves 64 bits
pub no_stride_over : {es fs ns : List ℕ} {st : List ℤ} → Lies es fs ns st → (ss : List ℤ) (operands : ℕ) → length ss ≡ length es * operands
    → ((k : ℕ) → k < operands → reach es (stride_row ss (length es) k) ≤ max_i) → ((j : ℕ) → j < length ss → in_i64 (get_or ss j (pos 0)) ≡ true)
    → some_of (stride_over (window_strides ns st ss (length es) operands)) 0 (length (window_strides ns st ss (length es) operands)) ≡ false
no_stride_over {es} {fs} {ns} {st} r ss operands all near fits = some_of_none (stride_over ws) (length ws) each
  where
    rank : ℕ
    rank = length es

    ws : List ℤ
    ws = window_strides ns st ss (length es) operands

    c : Counted rank fs ns st
    c = lies_counted r

    each : (j : ℕ) → j < length ws → stride_over ws j ≡ false
    each j h =
        let l : j < length ss = subst (λ (n : ℕ). j < n) (window_length ns st ss rank operands c all) h in
        let i : ℕ = j % rank in
        let k : ℕ = j / rank in
        let below : i < rank = axis_below ns st ss rank operands c all j l i refl in
        let there : k < operands = operand_below ns st ss rank operands c all j l in
        let long : length (stride_row ss rank k) ≡ rank = length_strides ss rank operands k all there in
        let same : get_or (stride_row ss rank k) i (pos 0) ≡ get_or ss j (pos 0) = stride_at ss rank k i below ∙ ap (λ (n : ℕ). get_or ss n (pos 0)) (div-add-mod' j rank) in
        let term : (get_or es i 0 - 1) * nat_abs (get_or ss j (pos 0)) ≤ max_i =
        subst (λ (t : ℤ). (get_or es i 0 - 1) * nat_abs t ≤ max_i) same
        (le_trans (term_reach es (stride_row ss rank k) i below (subst (λ (n : ℕ). i < n) (sym long) below)) (near k there)) in
        ap (λ (z : ℤ). not (in_i64 z)) (window_at_lem ns st ss rank operands c all j l i refl)
        ∙ ap not (stepped_fits (get_or es i 0) (get_or fs i 0) (get_or ns i 0) (get_or st i (pos 0)) (get_or ss j (pos 0)) (lies_at r i below) (fits j l) term)
