-- Row 6 keeps every sum of spans within 2^63: a part of the axes, and a part of what they span, is no more than the whole. Assumes nothing.
use mathlib.Core.Path.{◌≡◌, ap}
use mathlib.Core.Bool.{Bool, true, false, cond}
use mathlib.Core.List.{List}
use Prim.Native.Nat.{ℕ, ◌+◌, ◌-◌, ◌≤◌, ◌<◌, ◌^◌}
use native.Mathlib.Nat.{le_refl, zero-add}
use native.Mathlib.Omega.{arith}
use lib.ListN.{length}
use Rattle.strided.specs.Base.{sum}
use Rattle.laws.specs.Base.Ranges.{sum-next, sum_mono}
use Rattle.laws.specs.Cut.Ranges.{sum_step, sum_termwise, sum-add}
use Rattle.laws.specs.Cut.Rising.{before, way_of, adds}
use Rattle.laws.specs.Cut.Elements.{slab}
use Rattle.laws.specs.Cut.Tables.{stride_size, reach-sum}
use Rattle.decline.specs.Reach.{WithinReach}
use Rattle.decline.specs.Slabs.{span_to}
use Rattle.region.specs.declared.tail.Axes.{Axes}

cond_part : (b : Bool) (x : ℕ) → cond b x 0 ≤ x
cond_part true x = le_refl x
cond_part false x = omega arith

module _ (f : ℕ → ℕ) (es : List ℕ) where
  -- one axis more, before the cut
  pub width_room : (cut i w : ℕ) → i < cut → slab f es cut ≤ 2 ^ 63 → w ≡ 1 + sum (way_of f es) 0 i → w + way_of f es i ≤ 2 ^ 63
  unfolding slab
  width_room cut i w h r p = omega (arith, sum-next (way_of f es) i, sum_mono (way_of f es) 0 (i + 1) cut (omega arith))

  -- the slab at the cut and the axes behind it are the slab over all axes
  cut-room : (cut rank : ℕ) → cut ≤ rank → slab f es cut + sum (way_of f es) cut (rank - cut) ≡ slab f es rank
  unfolding slab
  cut-room cut rank h =
      let e : cut + (rank - cut) ≡ rank = omega arith in
      omega (arith, sum-add (way_of f es) 0 cut (rank - cut), ap (sum (way_of f es) 0) e, ap (λ (o : ℕ). sum (way_of f es) o (rank - cut)) (zero-add cut))

-- one axis more, behind the cut, where some axes are passed over
pub tail-room : (a : Axes) (k cut w i j : ℕ) → w + sum (way_of (stride_size a.strides.now k) a.extents.now) cut (a.rank - cut) ≤ 2 ^ 63 → cut ≤ j → j < a.rank
    → span_to j a k cut w i + way_of (stride_size a.strides.now k) a.extents.now j ≤ 2 ^ 63
tail-room a k cut w i j r h l =
    let f : ℕ → ℕ = stride_size a.strides.now k in
    let es : List ℕ = a.extents.now in
    omega (
      arith,
      r,
      sum_termwise (adds f es i) (way_of f es) (λ j. cond_part (before f i j) (way_of f es j)) cut (j - cut),
      sum_step (way_of f es) cut j h,
      sum_mono (way_of f es) cut (j + 1 - cut) (a.rank - cut) (omega arith),
    )

-- a slab at the cut and the axes behind it have 1 + reach elements
pub slab_near : (a : Axes) (k cut : ℕ) → WithinReach a → k < length a.sizes.now → cut ≤ a.rank
    → slab (stride_size a.strides.now k) a.extents.now cut + sum (way_of (stride_size a.strides.now k) a.extents.now) cut (a.rank - cut) ≤ 2 ^ 63
unfolding slab
slab_near a k cut r h l =
    omega (arith, r k h, reach-sum a.extents.now a.strides.now a.rank k, cut-room (stride_size a.strides.now k) a.extents.now cut a.rank l)
