-- Offsets and strides in bytes: what fits, and that a stretch is the patch of its bytes.
-- Assumes nothing.
use mathlib.Core.Path.{◌≡◌, sym, ap, ap₂, ◌∙◌, subst}
use mathlib.Core.Bool.{true}
use mathlib.Core.List.{List}
use Prim.Native.Nat.{ℕ, ◌*◌, ◌/◌, ◌^◌, ◌≤◌, ◌<◌}
use native.Mathlib.Nat.{mul-le-mul_right, div-mul-le_self}
use native.Mathlib.Omega.{arith}
use lib.IntN.{ℤ, pos, nat_abs, ◌+ℤ◌, ◌*ℤ◌}
use lib.ListN.{get_or}
use mir.Syntax.{w64}
use mir.Val.{SFits}
use Rattle.laws.specs.Base.Integers.{nat_abs_product, mag_size}
use Rattle.laws.specs.Base.Lists.{map_agree, over_agree}
use Rattle.span.specs.Span.{in_cells}
use Rattle.cells.specs.declared.Side.{Side}
use Rattle.cells.specs.Copy.{pair, Apart}
use Rattle.cells.specs.Offsets.{place_at, spot_offset, spot-place, bytes_inside}
use Rattle.cells.specs.Patch.{cell_at, run_cells, patch_cells, Inside, Lies}
use Rattle.export.proofs.Meaning.{cell_sign, cell_in_lem}
use Rattle.export.specs.Steps.{step_small, none_time, one_time}
use Rattle.export.specs.Blocks.{offset_at, row_cells, stretch_cells, Stretching, Bytes, InBytes}
use Rattle.walker.specs.declared.Next.{Next}

-- ---- sizes of steps

-- a step in bytes fits
times_fits : (w len : ℕ) (t : ℤ) → len < 2 ^ 63 → nat_abs t < len / w → SFits w64 (t *ℤ pos w)
times_fits w len t f h =
    let m : nat_abs (t *ℤ pos w) ≡ nat_abs t * w = nat_abs_product t (pos w) in
    let a : nat_abs t * w ≤ len / w * w = mul-le-mul_right w (let g : nat_abs t ≤ len / w = omega arith in g) in
    let b : len / w * w ≤ len = div-mul-le_self len w in
    let s = mag_size (t *ℤ pos w) in
    record { sfits = omega (arith, m, a, b, s) }

-- ---- one operand

module _ (w len n0 n1 : ℕ) (z t u : ℤ) (some : 1 ≤ w) (fits : len < 2 ^ 63) (one : 0 < n0) (row : 0 < n1)
    (cells : (i j : ℕ) → i < n0 → j < n1 → in_cells (len / w) ((z +ℤ pos j *ℤ u) +ℤ pos i *ℤ t) ≡ true) where
  first_cell : in_cells (len / w) z ≡ true
  first_cell = ap (in_cells (len / w)) (sym (none_time (z +ℤ pos 0 *ℤ u) t ∙ none_time z u)) ∙ cells 0 0 one row

  pub in_bytes : Bytes w n0 n1 z t u
  in_bytes =
      record {
        sign = cell_sign (len / w) z first_cell;
        first = let h = cell_in_lem w len z (omega (arith, some)) first_cell in omega (arith, h, some, fits);
        along = λ h.
            let e : in_cells (len / w) (z +ℤ t) ≡ true =
            ap (in_cells (len / w)) (sym (ap₂ (λ (a b : ℤ). a +ℤ b) (none_time z u) (one_time t))) ∙ cells 1 0 h row in
            times_fits w len t fits (step_small (len / w) z t first_cell e);
        on = λ h.
            let e : in_cells (len / w) (z +ℤ u) ≡ true =
            ap (in_cells (len / w)) (sym (none_time (z +ℤ pos 1 *ℤ u) t ∙ ap (λ (b : ℤ). z +ℤ b) (one_time u))) ∙ cells 0 1 one h in
            times_fits w len u fits (step_small (len / w) z u first_cell e);
      }

  module _ (o : Side) (b : InBytes w n0 n1 z t u o) where
    -- the step of an axis that is gone along
    on0 : (i : ℕ) → i < n0 → 0 < i → o.step0 ≡ t *ℤ pos w
    on0 i h p = b.along (omega (arith, h, p))

    on1 : (j : ℕ) → j < n1 → 0 < j → o.step1 ≡ u *ℤ pos w
    on1 j h p = b.on (omega (arith, h, p))

    pub lies : Lies w len n0 n1 o
    unfolding Lies
    lies i j hi hj =
        subst (Inside w len) (sym (spot_offset w o z t u i j b.first (on0 i hi) (on1 j hj)))
        (bytes_inside w len ((z +ℤ pos j *ℤ u) +ℤ pos i *ℤ t) (cell_sign (len / w) ((z +ℤ pos j *ℤ u) +ℤ pos i *ℤ t) (cells i j hi hj))
        (cell_in_lem w len ((z +ℤ pos j *ℤ u) +ℤ pos i *ℤ t) (omega (arith, some)) (cells i j hi hj)))

    pub place_is : (i j : ℕ) → i < n0 → j < n1 → nat_abs ((pos o.first +ℤ pos j *ℤ o.step1) +ℤ pos i *ℤ o.step0) ≡ place_at w ((z +ℤ pos j *ℤ u) +ℤ pos i *ℤ t)
    place_is i j hi hj = spot-place w o z t u i j b.first (on0 i hi) (on1 j hj) (cell_sign (len / w) ((z +ℤ pos j *ℤ u) +ℤ pos i *ℤ t) (cells i j hi hj))

-- ---- the patch

-- A STRETCH IS A PATCH
module _ (w n0 n1 : ℕ) (ss d first : List ℤ) (to from : Side)
    (a : (i j : ℕ) → i < n0 → j < n1 → nat_abs ((pos to.first +ℤ pos j *ℤ to.step1) +ℤ pos i *ℤ to.step0) ≡ place_at w (offset_at ss d first 0 j i))
    (b : (i j : ℕ) → i < n0 → j < n1 → nat_abs ((pos from.first +ℤ pos j *ℤ from.step1) +ℤ pos i *ℤ from.step0) ≡ place_at w (offset_at ss d first 1 j i)) where
  pub patch_is : patch_cells n0 n1 to from ≡ stretch_cells w n0 n1 ss d first
  unfolding patch_cells stretch_cells
  patch_is =
      over_agree (run_cells n0 to from) (row_cells w n0 ss d first) 0 n1
      (λ j l hj. map_agree (cell_at to from j) (λ i. pair (place_at w (offset_at ss d first 0 j i)) (place_at w (offset_at ss d first 1 j i))) 0 n0
      (λ i m hi. ap₂ pair (a i j (omega (arith, hi)) (omega (arith, hj))) (b i j (omega (arith, hi)) (omega (arith, hj)))))

-- ---- numbers that the code has read from its arrays

module _ {w n0 n1 : ℕ} {z t u z' t' u' : ℤ} (p : z' ≡ z) (q : t' ≡ t) (r : u' ≡ u) where
  pub bytes_read : Bytes w n0 n1 z t u → Bytes w n0 n1 z' t' u'
  bytes_read b = subst (λ (a : ℤ). Bytes w n0 n1 a t' u') (sym p) (subst (λ (a : ℤ). Bytes w n0 n1 z a u') (sym q) (subst (λ (a : ℤ). Bytes w n0 n1 z t a) (sym r) b))

  pub read_bytes : {o : Side} → InBytes w n0 n1 z' t' u' o → InBytes w n0 n1 z t u o
  read_bytes {o} b = subst (λ (a : ℤ). InBytes w n0 n1 a t u o) p (subst (λ (a : ℤ). InBytes w n0 n1 z' a u o) q (subst (λ (a : ℤ). InBytes w n0 n1 z' t' a o) r b))

-- ---- a stretch, both operands

module _ {w to from : ℕ} {x : Next} {ss d first : List ℤ} (h : Stretching w to from x ss d first) (s : 1 ≤ w) (f : to < 2 ^ 63) (g : from < 2 ^ 63) where
  pub into_bytes : Bytes w x.length x.count (get_or first 0 (pos 0)) (get_or ss 0 (pos 0)) (get_or d 0 (pos 0))
  into_bytes = in_bytes w to x.length x.count (get_or first 0 (pos 0)) (get_or ss 0 (pos 0)) (get_or d 0 (pos 0)) s f h.one h.row h.into

  pub from_bytes : Bytes w x.length x.count (get_or first 1 (pos 0)) (get_or ss 64 (pos 0)) (get_or d 1 (pos 0))
  from_bytes = in_bytes w from x.length x.count (get_or first 1 (pos 0)) (get_or ss 64 (pos 0)) (get_or d 1 (pos 0)) s g h.one h.row h.out

  module _ {a b : Side} (p : InBytes w x.length x.count (get_or first 0 (pos 0)) (get_or ss 0 (pos 0)) (get_or d 0 (pos 0)) a)
      (q : InBytes w x.length x.count (get_or first 1 (pos 0)) (get_or ss 64 (pos 0)) (get_or d 1 (pos 0)) b) where
    pub into_lies : Lies w to x.length x.count a
    into_lies = lies w to x.length x.count (get_or first 0 (pos 0)) (get_or ss 0 (pos 0)) (get_or d 0 (pos 0)) s f h.one h.row h.into a p

    pub from_lies : Lies w from x.length x.count b
    from_lies = lies w from x.length x.count (get_or first 1 (pos 0)) (get_or ss 64 (pos 0)) (get_or d 1 (pos 0)) s g h.one h.row h.out b q

    pub same-cells : patch_cells x.length x.count a b ≡ stretch_cells w x.length x.count ss d first
    same-cells =
        patch_is w x.length x.count ss d first a b
        (place_is w to x.length x.count (get_or first 0 (pos 0)) (get_or ss 0 (pos 0)) (get_or d 0 (pos 0)) s f h.one h.row h.into a p)
        (place_is w from x.length x.count (get_or first 1 (pos 0)) (get_or ss 64 (pos 0)) (get_or d 1 (pos 0)) s g h.one h.row h.out b q)

    pub cells-apart : Apart w (patch_cells x.length x.count a b)
    cells-apart = subst (Apart w) (sym same-cells) h.apart
