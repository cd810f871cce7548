-- What a layout has that planning does not refuse: the bounds that the planner's code leans on. Assumes nothing.
use Rattle.std.specs.Prelude.{◌≡◌, Bool, ◌||◌, List, ℕ, ◌*◌, ◌^◌, ◌≤◌, ◌<◌, eqb, ℤ, None}
use Rattle.std.proofs.Math.Path.{sym}
use Rattle.std.proofs.Common.{◌∙◌, subst, le_trans, arith}
use Rattle.std.proofs.Math.Bool.{false, not}
use Rattle.std.proofs.Math.Dec.{ltb}
use Rattle.std.proofs.Math.ListN.{length}
use borrow.Author.Tests.{le-ltb, ltb-false, eq-eqb, ne_eqb, eqb-false}
use Rattle.strided.specs.Base.{some_of}
use Rattle.strided.specs.Layout.{stride_row, chosen, total, has_zero, reach, max_u, max_i}
use Rattle.strided.specs.Refusals.{layout_rows, layout_refused, missing, row5}
use Rattle.strided.specs.declared.Purpose.{Purpose}
use Rattle.laws.specs.Base.Tests.{or_none}
use Rattle.laws.specs.Base.Layouts.{total_nozero}
use Rattle.laws.specs.Base.Refusals.{NoneApplies, none_applies, layout_counts}
use Rattle.laws.specs.Refusals.Rows.{none_refuses, unless-passes, passes-unless}
use Rattle.laws.specs.Refusals.Operands.{some_of_at, some_of_none}
use Rattle.laws.specs.Refusals.Zeros.{row5-total, no_zero_of, no_zero_test, total_some}

pub record Accepted (es sizes : List ℕ) (ss : List ℤ) (u : Purpose) : Type 0 where
  pub axes : length es ≤ 64
  pub one : 1 ≤ length sizes
  pub few : length sizes ≤ 8
  pub strides : length ss ≡ length es * length sizes
  -- the chosen operand is there, and so is the lead
  pub there : missing (length sizes) (chosen u) ≡ false
  -- a zero extent makes the total 0, so it fits in any case
  pub cells : total es < 2 ^ 64
  pub near : has_zero es ≡ false → (k : ℕ) → k < length sizes → reach es (stride_row ss (length es) k) ≤ max_i

module _ (es sizes : List ℕ) (ss : List ℤ) (u : Purpose) where
  abbrev far_at : ℕ → Bool
  far_at k = ltb max_i (reach es (stride_row ss (length es) k))

  pub accepted : layout_refused es sizes ss u ≡ None → Accepted es sizes ss u
  unfolding layout_refused NoneApplies
  accepted h =
      let a : NoneApplies (layout_rows es sizes ss u) = none_applies (layout_rows es sizes ss u) h in
      let o = or_none (eqb (length sizes) 0) (ltb 8 (length sizes)) a.1.0 in
      let n = layout_counts es sizes ss u h in
      let five : ltb max_u (total es) ≡ false = sym (row5-total es) ∙ a.1.1.1.1.0 in
      record {
        axes = n.axes;
        one = omega (arith, eqb-false (length sizes) 0 o.0);
        few = n.operands;
        strides = n.strides;
        there = a.1.1.1.0;
        cells = omega (arith, ltb-false max_u (total es) five);
        near = λ q k l. ltb-false max_i (reach es (stride_row ss (length es) k)) (some_of_at far_at (length sizes) (unless-passes (has_zero es) (some_of far_at 0 (length sizes)) a.1.1.1.1.1.0 q) k l);
      }

  -- and back: nothing else is refused
  pub accepted_back : Accepted es sizes ss u → layout_refused es sizes ss u ≡ None
  unfolding layout_refused NoneApplies
  accepted_back f =
      let n : length sizes ≡ 0 → ⊥ = λ q. absurd (omega (arith, f.one)) in
      let two : (eqb (length sizes) 0 || ltb 8 (length sizes)) ≡ false = rw (ne_eqb (length sizes) 0 n) (le-ltb 8 (length sizes) f.few) in
      let three : not (eqb (length ss) (length es * length sizes)) ≡ false = rw (eq-eqb (length ss) (length es * length sizes) f.strides) in
      let five : (row5 es).applies ≡ false = row5-total es ∙ le-ltb max_u (total es) (omega (arith, f.cells)) in
      let six : has_zero es ≡ false → some_of far_at 0 (length sizes) ≡ false =
      λ q. some_of_none far_at (length sizes) (λ k l. le-ltb max_i (reach es (stride_row ss (length es) k)) (f.near q k l)) in
      none_refuses (layout_rows es sizes ss u)
      (le-ltb 64 (length es) f.axes, (two, (three, (f.there, (five, (passes-unless (has_zero es) (some_of far_at 0 (length sizes)) six, tt))))))

-- ---- from one layout to another

-- for any purpose whose chosen operand is there
pub other_purpose : {es sizes : List ℕ} {ss : List ℤ} {u : Purpose} → Accepted es sizes ss u → (v : Purpose) → missing (length sizes) (chosen v) ≡ false
    → Accepted es sizes ss v
other_purpose a v h =
    record {
      axes = a.axes;
      one = a.one;
      few = a.few;
      strides = a.strides;
      there = h;
      cells = a.cells;
      near = a.near;
    }

-- fewer cells, less reach: fs and ts are extents and strides of as many axes and operands
module _ {es sizes : List ℕ} {ss : List ℤ} {u : Purpose} (a : Accepted es sizes ss u) (fs : List ℕ) (ts : List ℤ) where
  pub accepted_within : length fs ≡ length es → length ts ≡ length fs * length sizes → total fs ≤ total es
      → ((k : ℕ) → k < length sizes → reach fs (stride_row ts (length fs) k) ≤ reach es (stride_row ss (length es) k)) → Accepted fs sizes ts u
  accepted_within axes counted cells reaches =
      record {
        axes = subst (λ (n : ℕ). n ≤ 64) (sym axes) a.axes;
        one = a.one;
        few = a.few;
        strides = counted;
        there = a.there;
        cells = let c = a.cells in omega (arith, cells, c);
        near = λ q k l. le_trans (reaches k l) (a.near (same-zero q) k l);
      }
    where
      same-zero : has_zero fs ≡ false → has_zero es ≡ false
      same-zero q = no_zero_test es (total_nozero es (let z = total_some fs (no_zero_of fs q) in omega (arith, cells, z)))
