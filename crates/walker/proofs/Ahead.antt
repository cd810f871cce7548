-- The blocks ahead on one axis: how many they are, as `blocks_left` tells them, and where the axis aims at each of them.
-- Assumes nothing.
use mathlib.Core.Path.{◌≡◌, refl, sym, ap, ◌∙◌, subst}
use mathlib.Core.Bool.{Bool, true, false, cond}
use Prim.Native.Nat.{ℕ, suc, ◌+◌, ◌-◌, ◌*◌, ◌/◌, ◌≤◌, ◌<◌, min, max}
use native.Mathlib.Nat.{div-add-mod', mod-lt, div-mul-le_self, suc-mul, le-div_iff_mul-le}
use native.Mathlib.Omega.{arith}
use lib.Dec.{ltb}
use borrow.Author.Tests.{lt-ltb, le-ltb, ltb-true}
use Rattle.advance.specs.Axis.{start_of, ahead, back, inside_goal, tile_goal}
use Rattle.advance.specs.Filled.{by_lt}
use Rattle.advance.proofs.Axis.{start_on, start_tiles}
use Rattle.walker.specs.declared.way.Way.{Way}
use Rattle.walker.specs.Way.{left_in}

-- ---- where the axis aims

in_tile_lem : (w s at j : ℕ) → s ≤ at → suc j < w - (at - s) → at + j - s < w - 1
in_tile_lem w s at j l h = omega arith

first_of : (x a b : ℕ) → x < min a b → (x < a) × (x < b)
first_of x a b h = (omega arith, omega arith)

less_of : (j n : ℕ) → suc j < n → j < n
less_of j n h = omega arith

before_last : (extent at j : ℕ) → suc j < extent - at → at + j < extent - 1
before_last extent at j h = omega arith

pub inside_next : (extent w at j : ℕ) → 0 < w → suc j < min (w - (at - start_of w at)) (extent - at) → inside_goal extent w (at + j) ≡ ahead (at + suc j) (start_of w at)
unfolding inside_goal
inside_next extent w at j p h =
    let f = first_of (suc j) (w - (at - start_of w at)) (extent - at) h in
    let s = start_on w at j p (less_of j (w - (at - start_of w at)) f.0) in
    let a = in_tile_lem w (start_of w at) at j (div-mul-le_self at w) f.0 in
    let b = before_last extent at j f.1 in
    let g : at + j + 1 ≡ at + suc j = omega arith in
    rw (s, lt-ltb (at + j - start_of w at) (w - 1) a, lt-ltb (at + j) (extent - 1) b) (ap (λ (x : ℕ). ahead x (start_of w at)) g)

-- so many tiles of full width are ahead
pub tiles-fit : (extent w at j : ℕ) → 0 < w → 0 < j → j < max 1 ((extent - at) / w) → suc j * w ≤ extent - at
tiles-fit extent w at j p z h = (le-div_iff_mul-le p).0 (omega (arith, h, z))

pub tile_next : (extent w at j : ℕ) → 0 < w → at ≡ start_of w at → suc j < max 1 ((extent - at) / w) → tile_goal extent w (at + j * w) ≡ ahead (at + suc j * w) (at + suc j * w)
unfolding tile_goal
tile_next extent w at j p e h =
    let f = tiles-fit extent w at (suc j) p (omega arith) h in
    let a : suc j * w ≡ j * w + w = suc-mul j w in
    let b : suc (suc j) * w ≡ suc j * w + w = suc-mul (suc j) w in
    let g : at + j * w + w ≡ at + suc j * w = omega (arith, a) in
    let l : w < extent - (at + j * w) = omega (arith, a, b, f, p) in
    rw (start_tiles w at j p e, lt-ltb w (extent - (at + j * w)) l) (ap (λ (x : ℕ). ahead x x) g)

-- at the last block
min-below : (n x y : ℕ) → n + 1 ≡ min x y → n < x
min-below n x y e = omega arith

min-first : (n x y : ℕ) → x < y → n + 1 ≡ min x y → n + 1 ≡ x
min-first n x y q e = omega arith

min_second : (n x y : ℕ) → y ≤ x → n + 1 ≡ min x y → n + 1 ≡ y
min_second n x y q e = omega arith

tile_done : (w s at n : ℕ) → s ≤ at → at + n - s < w - 1 → n + 1 ≡ w - (at - s) → ⊥
tile_done w s at n l f e = omega arith

axis_done : (extent at n : ℕ) → at + n < extent - 1 → n + 1 ≡ extent - at → ⊥
axis_done extent at n f e = omega arith

pub last_inside : (extent w at n : ℕ) → 0 < w → at < extent → n + 1 ≡ min (w - (at - start_of w at)) (extent - at) → inside_goal extent w (at + n) ≡ back (start_of w at)
unfolding inside_goal
last_inside extent w at n p a h =
    let s = start_on w at n p (min-below n (w - (at - start_of w at)) (extent - at) h) in
    rw s (go (ltb (at + n - start_of w at) (w - 1)) refl (ltb (at + n) (extent - 1)) refl)
  where
    go : (x : Bool) → ltb (at + n - start_of w at) (w - 1) ≡ x → (y : Bool) → ltb (at + n) (extent - 1) ≡ y
        → cond x (cond y (ahead (at + n + 1) (start_of w at)) (back (start_of w at))) (back (start_of w at)) ≡ back (start_of w at)
    go true e true f =
        absurd (by_lt (w - (at - start_of w at)) (extent - at)
        (λ q. tile_done w (start_of w at) at n (div-mul-le_self at w) (ltb-true (at + n - start_of w at) (w - 1) e) (min-first n (w - (at - start_of w at)) (extent - at) q h))
        (λ q. axis_done extent at n (ltb-true (at + n) (extent - 1) f) (min_second n (w - (at - start_of w at)) (extent - at) q h)))
    go true e false f = refl
    go false e y f = refl

pub last_tile : (extent w at : ℕ) → at ≡ start_of w at → extent - at ≤ w → tile_goal extent w at ≡ back 0
unfolding tile_goal
last_tile extent w at s h = rw (sym s, le-ltb w (extent - at) h)

-- ---- the blocks ahead

module _ (y : Way) (extent w at : ℕ) where
  pub left_inside : y.inside ≡ true → left_in y extent w at ≡ min (w - (at - start_of w at)) (extent - at)
  unfolding left_in
  left_inside i = rw i

  pub left_tile : y.inside ≡ false → left_in y extent w at ≡ max 1 ((extent - at) / w)
  unfolding left_in
  left_tile i = rw i

  -- there is one
  pub left_some : 0 < w → at < extent → 0 < left_in y extent w at
  left_some p h = go y.inside refl
    where
      go : (b : Bool) → y.inside ≡ b → 0 < left_in y extent w at
      go true i = let q = left_inside i in let d = div-add-mod' at w in let m = mod-lt at p in omega (arith, q, p, h, d, m)
      go false i = let q = left_tile i in omega (arith, q)

-- as the code tells them; s is the tile's start as it is kept
module _ (y : Way) (extent w s at : ℕ) (is : s ≡ start_of w at) where
  pub told_tile : y.inside ≡ true → w - (at - s) < extent - at → w - (at - s) ≡ left_in y extent w at
  told_tile i g = let x : w - (at - s) ≡ w - (at - start_of w at) = ap (λ (z : ℕ). w - (at - z)) is in x ∙ sym (left_inside y extent w at i ∙ least (w - (at - start_of w at)) (extent - at) (subst (λ (z : ℕ). z < extent - at) x g))
    where
      least : (a b : ℕ) → a < b → min a b ≡ a
      least a b l = omega arith

  pub told_axis : y.inside ≡ true → extent - at ≤ w - (at - s) → extent - at ≡ left_in y extent w at
  told_axis i g = let x : w - (at - s) ≡ w - (at - start_of w at) = ap (λ (z : ℕ). w - (at - z)) is in sym (left_inside y extent w at i ∙ least (w - (at - start_of w at)) (extent - at) (subst (λ (z : ℕ). extent - at ≤ z) x g))
    where
      least : (a b : ℕ) → b ≤ a → min a b ≡ b
      least a b l = omega arith

  pub told_tiles : y.inside ≡ false → {n : ℕ} → n ≡ max ((extent - at) / w) 1 → n ≡ left_in y extent w at
  told_tiles i {n} e = e ∙ turned ((extent - at) / w) ∙ sym (left_tile y extent w at i)
    where
      turned : (a : ℕ) → max a 1 ≡ max 1 a
      turned a = omega arith
