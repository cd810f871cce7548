-- Laws of block sizes as they act: each is 1 or more, and 1 on an axis of one index.
-- Assumes nothing.
use mathlib.Core.Path.{◌≡◌, refl, sym, ◌∙◌, subst, ap}
use mathlib.Core.Bool.{Bool, true, false, cond}
use mathlib.Core.List.{List}
use Prim.Native.Nat.{ℕ, ◌≤◌, ◌<◌}
use native.Mathlib.Omega.{arith}
use lib.Dec.{leb, eqb}
use lib.ListN.{length, get_or, replicate, length-replicate}
use Rattle.strided.specs.Walk.{effective}
use Rattle.strided.specs.declared.Plan.{Plan}
use Rattle.layout.specs.Lent.{Whole}
use Rattle.advance.specs.Axis.{width_of, width_at, widths, Acting}
use Rattle.advance.specs.Filled.{filled_at}

pub all_places : length {A = ℕ} (replicate 64 0) ≡ 64
all_places = length-replicate {A = ℕ} 64 0

width_some : (rank i e b : ℕ) → 0 < width_of rank i e b
unfolding width_of
width_some rank i e b = go (leb rank 8) (eqb i 0)
  where
    go : (x y : Bool) → 0 < cond x (effective e b) (cond y (effective e b) 1)
    go true y = omega arith
    go false true = omega arith
    go false false = omega arith

-- that of an axis of one index is 1
width_long : (rank i e b : ℕ) → (width_of rank i e b ≡ 1 → ⊥) → 1 < e
unfolding width_of
width_long rank i e b = go (leb rank 8) (eqb i 0)
  where
    go : (x y : Bool) → (cond x (effective e b) (cond y (effective e b) 1) ≡ 1 → ⊥) → 1 < e
    go true y n = omega (arith, n)
    go false true n = omega (arith, n)
    go false false n = absurd (n refl)

pub width_some_on : (p : Plan) (i : ℕ) {x : ℕ} → x ≡ width_at p i → 0 < x
width_some_on p i q = subst (λ (n : ℕ). 0 < n) (sym q) (width_some p.rank i (get_or p.extents i 0) (get_or p.blocks i 0))

module _ (p : Plan) (few : p.rank ≤ 64) where
  -- the block size in force on axis i
  pub width_read : (i : ℕ) → i < p.rank → {x : ℕ} → x ≡ width_at p i → x ≡ get_or (widths p) i 0
  width_read i h q = q ∙ sym (filled_at (replicate 64 0) (width_at p) 0 p.rank i h (omega (arith, all_places, few)))

  pub width_pos : (i : ℕ) → i < p.rank → 0 < get_or (widths p) i 0
  width_pos i h = subst (λ (n : ℕ). 0 < n) (width_read i h refl) (width_some_on p i refl)

-- the same of block sizes that are kept
module _ {p : Plan} (whole : Whole p) {w : List ℕ} (acts : Acting w p) where
  pub acting_pos : (i : ℕ) → i < p.rank → 0 < get_or w i 0
  acting_pos i h = subst (λ (v : List ℕ). 0 < get_or v i 0) (sym acts) (width_pos p whole.axes i h)

  pub acting_long : (i : ℕ) → i < p.rank → (get_or w i 0 ≡ 1 → ⊥) → 1 < get_or p.extents i 0
  acting_long i h n =
      width_long p.rank i (get_or p.extents i 0) (get_or p.blocks i 0)
      (λ q. n (ap (λ (v : List ℕ). get_or v i 0) acts ∙ sym (width_read p whole.axes i h refl) ∙ q))
