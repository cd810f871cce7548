-- Laws of one axis: a counter stays below its extent, the tile start that is kept is that of the counter, and the length of a block.
-- Assumes nothing.
use mathlib.Core.Path.{◌≡◌, refl, sym, ap, subst, ◌∙◌}
use mathlib.Core.Bool.{Bool, true, false, cond}
use Prim.Native.Nat.{ℕ, ◌+◌, ◌-◌, ◌*◌, ◌/◌, ◌%◌, ◌≤◌, ◌<◌}
use native.Mathlib.Nat.{lt_of_le_of_lt, div-mul-le_self, div-add-mod', mod-lt, add-div_right, add-mul-div_right, mul-div_cancel, div-eq_of_lt, div-one, mul-one, zero-div, zero-mul}
use native.Mathlib.Omega.{arith}
use lib.Arith.{digits_div}
use lib.ListN.{get_or}
use lib.Dec.{ltb}
use borrow.Author.Tests.{ltb-true, lt-ltb, le-ltb, ne_eqb}
use Rattle.advance.specs.declared.place.Goal.{Goal}
use Rattle.advance.specs.Axis.{start_of, inside_goal, tile_goal, goal_of, ahead, back}
use Rattle.strided.specs.declared.Plan.{Plan}
use Rattle.advance.specs.Arrays.{length_on}
use Rattle.advance.specs.Blocks.{length_by}

-- of a choice by a test, what holds in both cases, where each may use what the test says
by_test : {X : Type 0} (P : X → Type 0) (t : Bool) (x y : X) → (t ≡ true → P x) → (t ≡ false → P y) → P (cond t x y)
by_test P true x y p q = p refl
by_test P false x y p q = q refl

-- ---- the start of a tile

-- a tile's start is its own start
pub start_start : (w at : ℕ) → 0 < w → start_of w (start_of w at) ≡ start_of w at
start_start w at h = ap (λ (q : ℕ). q * w) (mul-div_cancel (at / w) h)

pub start_zero : (w : ℕ) → start_of w 0 ≡ 0
start_zero w = ap (λ (q : ℕ). q * w) (zero-div w) ∙ zero-mul w

-- tiles of 1; and an axis of one tile
pub start_one : (at : ℕ) → start_of 1 at ≡ at
start_one at = ap (λ (q : ℕ). q * 1) (div-one at) ∙ mul-one at

pub start_whole : (w at : ℕ) → at < w → start_of w at ≡ 0
start_whole w at h = ap (λ (q : ℕ). q * w) (div-eq_of_lt h) ∙ zero-mul w

-- j ahead, in the same tile
pub start_on : (w at j : ℕ) → 0 < w → j < w - (at - start_of w at) → start_of w (at + j) ≡ start_of w at
start_on w at j p h =
    let e = div-add-mod' at w in
    let l = mod-lt at p in
    let r : at % w + j < w = omega (arith, e, h, l) in
    let q : at + j ≡ at / w * w + (at % w + j) = omega (arith, e) in
    ap (λ (x : ℕ). x * w) (ap (λ (x : ℕ). x / w) q ∙ digits_div (at / w) r)

-- j tiles ahead, from the start of one
pub start_tiles : (w at j : ℕ) → 0 < w → at ≡ start_of w at → start_of w (at + j * w) ≡ at + j * w
start_tiles w at j p h =
    ap (λ (x : ℕ). x * w) (add-mul-div_right at j p) ∙ (let g : (at / w + j) * w ≡ at + j * w = omega (arith, h) in g)

-- the next tile
start_tile : (w at : ℕ) → 0 < w → start_of w (start_of w at + w) ≡ start_of w at + w
start_tile w at h =
    let e : (at / w * w + w) / w ≡ at / w + 1 = add-div_right (at / w * w) h ∙ ap (λ (q : ℕ). q + 1) (mul-div_cancel (at / w) h) in
    ap (λ (q : ℕ). q * w) e ∙ (let g : (at / w + 1) * w ≡ at / w * w + w = omega arith in g)

-- ---- where an axis goes

-- below its extent, with the start of the tile that it is then in
pub record Lands (extent w : ℕ) (a : Goal) : Type 0 where
  pub below : a.to < extent
  pub start : a.start ≡ start_of w a.to

module _ (extent w at : ℕ) (pos : 0 < w) (h : at < extent) where
  back_lands : Lands extent w (back (start_of w at))
  back_lands = record { below = lt_of_le_of_lt (div-mul-le_self at w) h; start = sym (start_start w at pos) }

  inside_lands : Lands extent w (inside_goal extent w at)
  unfolding inside_goal
  inside_lands =
      by_test (Lands extent w) (ltb (at - start_of w at) (w - 1)) (cond (ltb at (extent - 1)) (ahead (at + 1) (start_of w at)) (back (start_of w at))) (back (start_of w at))
      (λ u. by_test (Lands extent w) (ltb at (extent - 1)) (ahead (at + 1) (start_of w at)) (back (start_of w at))
      (λ v. record { below = omega (arith, ltb-true at (extent - 1) v); start = sym (start_on w at 1 pos (let l = ltb-true (at - start_of w at) (w - 1) u in omega (arith, l))) })
      (λ v. back_lands))
      (λ u. back_lands)

  tile_lands : Lands extent w (tile_goal extent w at)
  unfolding tile_goal
  tile_lands =
      by_test (Lands extent w) (ltb w (extent - start_of w at)) (ahead (start_of w at + w) (start_of w at + w)) (back 0)
      (λ u. record { below = omega (arith, ltb-true w (extent - start_of w at) u); start = sym (start_tile w at pos) })
      (λ u. record { below = omega arith; start = sym (start_zero w) })

  pub goal_lands : (inside : Bool) → Lands extent w (goal_of inside extent w at)
  unfolding goal_of
  goal_lands true = inside_lands
  goal_lands false = tile_lands

-- ---- the length of a block

module _ (p : Plan) (width at : ℕ) (nz : p.rank ≡ 0 → ⊥) where
  pub length_cut : width < get_or p.extents 0 0 - at → width ≡ length_by p width at
  unfolding length_by
  length_cut h = sym (simp (ne_eqb _ _ nz, lt-ltb _ _ h))

  pub length-left : get_or p.extents 0 0 - at ≤ width → get_or p.extents 0 0 - at ≡ length_by p width at
  unfolding length_by
  length-left h = sym (simp (ne_eqb _ _ nz, le-ltb _ _ h))

-- on a plan it is by its rank and its axis 0
pub length_on_plan : (p : Plan) (width at : ℕ) → length_on p.rank (get_or p.extents 0 0) width at ≡ length_by p width at
unfolding length_on length_by
length_on_plan p width at = refl

-- ---- the aims, by the tests that led there; s is the tile's start as it is kept

module _ (extent w s at : ℕ) (is : s ≡ start_of w at) where
  pub inside_ahead : at - s < w - 1 → at < extent - 1 → ahead (at + 1) s ≡ inside_goal extent w at
  unfolding inside_goal
  inside_ahead p q =
      let p' : at - start_of w at < w - 1 = subst (λ (n : ℕ). at - n < w - 1) is p in
      ap (ahead (at + 1)) is ∙ sym (simp (lt-ltb _ _ p', lt-ltb _ _ q))

  pub inside_last : at - s < w - 1 → extent - 1 ≤ at → back s ≡ inside_goal extent w at
  unfolding inside_goal
  inside_last p q =
      let p' : at - start_of w at < w - 1 = subst (λ (n : ℕ). at - n < w - 1) is p in
      ap back is ∙ sym (simp (lt-ltb _ _ p', le-ltb _ _ q))

  pub inside_back : w - 1 ≤ at - s → back s ≡ inside_goal extent w at
  unfolding inside_goal
  inside_back p =
      let p' : w - 1 ≤ at - start_of w at = subst (λ (n : ℕ). w - 1 ≤ at - n) is p in
      ap back is ∙ sym (simp (le-ltb _ _ p'))

  pub tile_ahead : w < extent - s → ahead (s + w) (s + w) ≡ tile_goal extent w at
  unfolding tile_goal
  tile_ahead p =
      let p' : w < extent - start_of w at = subst (λ (n : ℕ). w < extent - n) is p in
      ap (λ (n : ℕ). ahead (n + w) (n + w)) is ∙ sym (simp (lt-ltb _ _ p'))

  pub tile_back : extent - s ≤ w → back 0 ≡ tile_goal extent w at
  unfolding tile_goal
  tile_back p =
      let p' : extent - start_of w at ≤ w = subst (λ (n : ℕ). extent - n ≤ w) is p in
      sym (simp (le-ltb _ _ p'))
