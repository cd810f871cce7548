-- THE PLANS OF A COPY AND OF A SUM ARE AS GoodFit SAYS: where the blocks of a copy are fitted, they are the fit of the sum's, and these are at
-- least 1; where they are not, the two plans are one. Assumes nothing.
use Rattle.std.specs.Prelude.{◌≡◌, ◌⊎◌, Bool, cond, ◌||◌, List, ℕ, ◌+◌, ◌*◌, ◌≤◌, ◌<◌, ℤ, pos, nat_abs, Option, None, Some}
use Rattle.std.proofs.Math.Path.{refl, sym, ap, subst⁻¹}
use Rattle.std.proofs.Common.{◌∙◌, le_of_eq, arith}
use Rattle.std.proofs.Math.Logic.{inl, inr, ⊎_elim}
use Rattle.std.proofs.Math.Bool.{true, false}
use Rattle.std.proofs.Math.Dec.{leb, eqb}
use Rattle.std.proofs.Math.ListN.{length, get_or}
use borrow.Author.Tests.{leb-false, lt-leb, eqb-true, eqb-false, eq-eqb, ne_eqb}
use Rattle.strided.specs.Base.{padded, every}
use Rattle.strided.specs.Layout.{Axis, extents, total}
use Rattle.strided.specs.Refusals.{planning_refused, served_unless}
use Rattle.strided.specs.Order.{loop_order, fusing_order}
use Rattle.strided.specs.Fuse.{plan_axes}
use Rattle.strided.specs.Region.{byte_table, region}
use Rattle.strided.specs.Costs.{costs}
use Rattle.strided.specs.Cut.{plan_ranks, cutting}
use Rattle.strided.specs.Decline.{declined}
use Rattle.strided.specs.Fit.{fitted}
use Rattle.strided.specs.Plan.{stride_table, grows, cut_blocks, plan_from, planned}
use Rattle.strided.specs.GoodFit.{AtMost, Tight, Kept, Good, Runs, SameAxes, GoodPlans, GoodAnswers, Statement}
use Rattle.strided.specs.declared.Machine.{Machine}
use Rattle.strided.specs.declared.Purpose.TheVariants.{PointwiseInto, Fold}
use Rattle.strided.specs.declared.Refusal.{Refusal}
use Rattle.strided.specs.declared.Plan.{Plan}
use Rattle.laws.specs.Base.Tests.{or_none}
use Rattle.laws.specs.Refusals.Accepted.{accepted}
use Rattle.laws.specs.Refusals.Record.{planning_layout}
use Rattle.laws.specs.Cut.Above.{cutting_above}
use Rattle.laws.specs.Plan.Bounds.{array_above}
use Rattle.laws.specs.Fit.Good.{fit_good}

-- ---- the two plans of the same axes

module _ (mc : Machine) (es sizes : List ℕ) (axs : List Axis) (c : ℕ) where
  abbrev P : Plan
  P = plan_from mc es sizes axs (PointwiseInto c)

  abbrev F : Plan
  F = plan_from mc es sizes axs (Fold c)

  abbrev E : List ℕ
  E = padded 64 0 (extents axs)

  abbrev S : List ℤ
  S = stride_table axs (length sizes)

  abbrev r : ℕ
  r = length axs

  abbrev bytes : List ℕ
  bytes = byte_table sizes S

  abbrev chosen : ℕ → ℕ
  chosen i = nat_abs (get_or S (c * 64 + i) (pos 0))

  abbrev ruled : List ℕ
  ruled = cutting mc bytes (length sizes) (costs S (length sizes) r) (plan_ranks sizes S r) 0 r E

  abbrev whole : Bool
  whole = eqb r 0 || (leb (region mc bytes (length sizes) E 0 r) mc.cache || every (grows sizes S r) 0 (length sizes))

  abbrev off : Bool
  off = declined mc bytes sizes (length sizes) E r ruled

  -- the blocks by the tests of document 01
  abbrev chose : Bool → Bool → Bool → List ℕ → List ℕ
  chose small kept untiled b = cond small E (cond kept E (cond untiled E b))

  module _ (small kept untiled : Bool) (e : leb (total es) 1024 ≡ small) (w : whole ≡ kept) (d : off ≡ untiled) where
    copy_is : (pair : Bool) → eqb (length sizes) 2 ≡ pair → P.blocks ≡ chose small kept untiled (cond pair (fitted mc bytes sizes r chosen ruled) ruled)
    unfolding plan_from cut_blocks
    copy_is pair q = λ i. chose (e i) (w i) (d i) (cond (q i) (fitted mc bytes sizes r chosen ruled) ruled)

    model_is : F.blocks ≡ chose small kept untiled ruled
    unfolding plan_from cut_blocks
    model_is = λ i. chose (e i) (w i) (d i) ruled

  -- ---- when the fit is done

  whole-not : Runs mc es sizes F → whole ≡ false
  unfolding plan_from
  whole-not h =
      let z : r ≡ 0 → ⊥ = λ q. absurd (omega (arith, h.axes)) in
      rw (ne_eqb r 0 z, lt-leb (region mc bytes (length sizes) E 0 r) mc.cache h.wide) h.mixed

  copy_fitted : Runs mc es sizes F → P.blocks ≡ fitted mc bytes sizes r chosen ruled
  unfolding plan_from
  copy_fitted h = copy_is false false false (lt-leb (total es) 1024 h.long) (whole-not h) h.tiled true (eq-eqb (length sizes) 2 h.two)

  model_ruled : Runs mc es sizes F → F.blocks ≡ ruled
  unfolding plan_from
  model_ruled h = model_is false false false (lt-leb (total es) 1024 h.long) (whole-not h) h.tiled

  fit_is : Runs mc es sizes F → P.blocks ≡ fitted mc bytes sizes r chosen F.blocks
  fit_is h = copy_fitted h ∙ ap (fitted mc bytes sizes r chosen) (sym (model_ruled h))

  -- it is done, or the copy has the sum's blocks
  runs_or : Runs mc es sizes F ⊎ (P.blocks ≡ F.blocks)
  unfolding plan_from
  runs_or = go (leb (total es) 1024) whole off (eqb (length sizes) 2) refl refl refl refl
    where
      go : (small kept untiled pair : Bool) → leb (total es) 1024 ≡ small → whole ≡ kept → off ≡ untiled → eqb (length sizes) 2 ≡ pair
          → Runs mc es sizes F ⊎ (P.blocks ≡ F.blocks)
      go true kept untiled pair e w d p = inr (copy_is true kept untiled e w d pair p ∙ sym (model_is true kept untiled e w d))
      go false true untiled pair e w d p = inr (copy_is false true untiled e w d pair p ∙ sym (model_is false true untiled e w d))
      go false false true pair e w d p = inr (copy_is false false true e w d pair p ∙ sym (model_is false false true e w d))
      go false false false false e w d p = inr (copy_is false false false e w d false p ∙ sym (model_is false false false e w d))
      go false false false true e w d p =
          let a = or_none (eqb r 0) (leb (region mc bytes (length sizes) E 0 r) mc.cache || every (grows sizes S r) 0 (length sizes)) w in
          let b = or_none (leb (region mc bytes (length sizes) E 0 r) mc.cache) (every (grows sizes S r) 0 (length sizes)) a.1 in
          let z : r ≡ 0 → ⊥ = eqb-false r 0 a.0 in
          inl (record {
            two = eqb-true (length sizes) 2 p;
            long = leb-false (total es) 1024 e;
            axes = omega arith;
            wide = leb-false (region mc bytes (length sizes) E 0 r) mc.cache b.0;
            mixed = b.1;
            tiled = d;
          })

  same_blocks : P.blocks ≡ F.blocks → P ≡ F
  unfolding plan_from
  same_blocks e = λ i. record { rank = r; operands = length sizes; extents = E; blocks = e i; strides = S }

  same-axes : SameAxes P F
  unfolding plan_from
  same-axes = record { rank = refl; operands = refl; extents = refl; strides = refl }

  -- ---- what holds of them

  module _ (above : 1024 < total es → (i : ℕ) → i < r → 1 ≤ get_or E i 0) where
    good : Runs mc es sizes F → Good mc bytes sizes r chosen F.blocks P.blocks
    good h =
        subst⁻¹ (λ (x : List ℕ). Good mc bytes sizes r chosen x P.blocks) (model_ruled h)
        (subst⁻¹ (λ (x : List ℕ). Good mc bytes sizes r chosen ruled x) (copy_fitted h)
        (fit_good mc bytes sizes r chosen ruled
        (λ i l. cutting_above mc bytes (length sizes) (costs S (length sizes) r) (plan_ranks sizes S r) 0 r E i (above h.long i l))))

    -- with no fit nothing is shortened
    tight : Tight mc bytes sizes r chosen F.blocks P.blocks
    tight i l = ⊎_elim (λ h. (good h).tight i l) (λ e. absurd (omega (arith, l, ap (λ (x : List ℕ). get_or x i 0) e))) runs_or

    shrinks : AtMost P.blocks F.blocks
    shrinks i = ⊎_elim (λ h. (good h).shrinks i) (λ e. le_of_eq (ap (λ (x : List ℕ). get_or x i 0) e)) runs_or

    kept : Kept mc bytes sizes r chosen F.blocks P.blocks
    kept i z = ⊎_elim (λ h. (good h).kept i z) (λ e. ap (λ (x : List ℕ). get_or x i 0) e) runs_or

-- ---- the theorem

module _ (mc : Machine) (es sizes : List ℕ) (ss : List ℤ) (c : ℕ) where
  abbrev axs : List Axis
  axs = plan_axes es (length sizes) ss (Fold c)

  served_good : planning_refused mc es sizes ss (Fold c) ≡ None → GoodPlans mc es sizes c (P mc es sizes axs c) (F mc es sizes axs c)
  unfolding plan_from
  served_good h =
      let above : 1024 < total es → (i : ℕ) → i < length axs → 1 ≤ get_or (padded 64 0 (extents axs)) i 0 =
      λ l. array_above es sizes ss (Fold c) (accepted es sizes ss (Fold c) (planning_layout mc es sizes ss (Fold c) h)) (omega arith) in
      record {
        axes = same-axes mc es sizes axs c;
        fit = fit_is mc es sizes axs c;
        achieved = λ q. (good mc es sizes axs c above q).achieved;
        tight = tight mc es sizes axs c above;
        shrinks = shrinks mc es sizes axs c above;
        kept = kept mc es sizes axs c above;
        same = λ q. ⊎_elim (λ k. absurd (q k)) (λ e. same_blocks mc es sizes axs c e) (runs_or mc es sizes axs c);
      }

pub plans_good : Statement
unfolding planned planning_refused plan_axes fusing_order loop_order
plans_good mc es sizes ss c = go (planning_refused mc es sizes ss (Fold c)) refl
  where
    go : (o : Option Refusal) → planning_refused mc es sizes ss (Fold c) ≡ o
        → GoodAnswers mc es sizes c (served_unless o (P mc es sizes (axs mc es sizes ss c) c)) (served_unless o (F mc es sizes (axs mc es sizes ss c) c))
    go None e = served_good mc es sizes ss c e
    go (Some o) e = refl
