-- WHAT A PLAN'S ARRAYS HAVE, where planning does not refuse the layout: few axes, no extent of 0 where there is a cell, and the layout's own
-- reach at each operand. So what row 6 bounds stays bounded for cutting.
-- Assumes nothing.
use Rattle.std.specs.Prelude.{◌≡◌, false, List, ℕ, ◌*◌, ◌^◌, ◌≤◌, ◌<◌, ℤ, length, get_or, take, drop}
use Rattle.std.proofs.Common.{sym, ap₂, ◌∙◌, subst, arith}
use Rattle.strided.specs.Base.{padded}
use Rattle.strided.specs.Layout.{Axis, has_zero, total, extents, reach, stride_row, max_i}
use Rattle.strided.specs.Fuse.{plan_axes}
use Rattle.strided.specs.Plan.{stride_table}
use Rattle.strided.specs.declared.Purpose.{Purpose}
use Rattle.laws.specs.Base.Arrays.{take_counted, get_d_padded}
use Rattle.laws.specs.Base.Layouts.{total_nozero, nozero_at, extent_le, length-extents, table_row}
use Rattle.laws.specs.Refusals.Accepted.{Accepted}
use Rattle.laws.specs.Refusals.Zeros.{no_zero_of}
use Rattle.laws.specs.Fuse.Maps.{plan_short, plan_total}
use Rattle.laws.specs.Fuse.Reach.{plan_reach}

module _ (es sizes : List ℕ) (ss : List ℤ) (u : Purpose) (a : Accepted es sizes ss u) where
  abbrev m : ℕ
  m = length sizes

  abbrev axs : List Axis
  axs = plan_axes es m ss u

  abbrev r : ℕ
  r = length axs

  abbrev E : List ℕ
  E = padded 64 0 (extents axs)

  abbrev S : List ℤ
  S = stride_table axs m

  pub plan_few : length (plan_axes es (length sizes) ss u) ≤ 64
  plan_few = omega (arith, plan_short es m ss u, a.axes)

  -- no extent is 0
  pub array_above : 0 < total es → (i : ℕ) → i < length (plan_axes es (length sizes) ss u) → 1 ≤ get_or (padded 64 0 (extents (plan_axes es (length sizes) ss u))) i 0
  array_above h i l =
      subst (λ (e : ℕ). 1 ≤ e) (sym (get_d_padded 0 64 (extents axs) i (omega (arith, plan_few))))
      (nozero_at (extents axs) i (total_nozero (extents axs) (omega (arith, plan_total es m ss u))) (omega (arith, length-extents axs)))

  -- an extent is at most the total
  pub array_small : 0 < total es → (i : ℕ) → i < length (plan_axes es (length sizes) ss u) → get_or (padded 64 0 (extents (plan_axes es (length sizes) ss u))) i 0 < 2 ^ 64
  array_small h i l =
      let le : get_or (extents axs) i 0 ≤ total (extents axs) = extent_le (extents axs) i (omega (arith, plan_total es m ss u)) in
      subst (λ (e : ℕ). e < 2 ^ 64) (sym (get_d_padded 0 64 (extents axs) i (omega (arith, plan_few)))) (omega (arith, plan_total es m ss u, a.cells))

  module _ (z : has_zero es ≡ false) (k : ℕ) (h : k < length sizes) where
    row-reach : reach (take r E) (take r (drop (k * 64) S)) ≡ reach es (stride_row ss (length es) k)
    row-reach =
        ap₂ reach (take_counted 0 64 r (extents axs) (length-extents axs) plan_few) (table_row axs m k plan_few a.few h)
        ∙ plan_reach es m ss u (no_zero_of es z) a.strides k h

    -- row 6 on the plan's arrays
    pub array_near : reach (take (length (plan_axes es (length sizes) ss u)) (padded 64 0 (extents (plan_axes es (length sizes) ss u))))
        (take (length (plan_axes es (length sizes) ss u)) (drop (k * 64) (stride_table (plan_axes es (length sizes) ss u) (length sizes)))) ≤ max_i
    array_near = subst (λ (n : ℕ). n ≤ max_i) (sym row-reach) (a.near z k h)
