-- A PLAN BEGINS WHERE ITS LAYOUT DOES: a beginning judges rows 8 and 9 on the plan's own extents and strides. For a plan that planning handed
-- out, whatever its blocks, that is rows 8 and 9 of the layout, since the plan's offsets are the layout's.
-- Assumes nothing.
use Rattle.std.specs.Prelude.{◌≡◌, Bool, true, ◌&&◌, List, ℕ, ◌<◌, cond, eqb, ℤ, pos, ◌+ℤ◌, get_or, None, Some}
use Rattle.std.proofs.Math.Path.{sym, ap, subst}
use Rattle.std.proofs.Common.{ap₂, ◌∙◌}
use Rattle.std.proofs.Math.Bool.{false, not}
use Rattle.std.proofs.Math.ListN.{length}
use borrow.Author.Tests.{eqb-true, eq-eqb, not-false}
use Rattle.strided.specs.Base.{some_of}
use Rattle.strided.specs.Layout.{Within, NoZero, has_zero, total, dot, in_i64, extents, row, stride_row}
use Rattle.strided.specs.Refusals.{leaves, row9, planning_refused}
use Rattle.strided.specs.Fuse.{plan_axes}
use Rattle.strided.specs.Index.{original_index, index_in_plan}
use Rattle.strided.specs.Plan.{plan_from, the_plan}
use Rattle.strided.specs.Begin.{plan_extents, plan_row, begin_rows, begin_refused}
use Rattle.strided.specs.Text.{zero_starts}
use Rattle.strided.specs.Demand3.{replaced}
use Rattle.strided.specs.declared.Machine.{Machine}
use Rattle.strided.specs.declared.Purpose.{Purpose}
use Rattle.strided.specs.declared.Plan.{Plan}
use Rattle.strided.specs.declared.Refusal.{Refusal}
use Rattle.strided.specs.declared.Refusal.TheVariants.{Offsets}
use Rattle.laws.specs.Base.Layouts.{table_row, total_nozero, length-row, length-extents}
use Rattle.laws.specs.Base.Refusals.{NoneApplies, none_applies}
use Rattle.laws.specs.Base.Rows.{length_strides}
use Rattle.laws.specs.Fuse.Maps.{plan_total, plan_in, orig_in, orig_plan, same-dot}
use Rattle.laws.specs.Plan.Bounds.{plan_few}
use Rattle.laws.specs.Refusals.Accepted.{Accepted, accepted}
use Rattle.laws.specs.Refusals.Record.{planning_layout}
use Rattle.laws.specs.Refusals.Operands.{some_of_at, some_of_none}
use Rattle.laws.specs.Refusals.Rows.{none_refuses, passes-unless, unless-passes}
use Rattle.laws.specs.Refusals.Zeros.{no_zero_of, no_zero_test, total_some}
use Rattle.laws.specs.Walk.Row9.{row9_exact}
use Rattle.laws.specs.Text.Totals.{planned-extents}
use Rattle.laws.specs.Text.Begins.{planned_operands, planned_begins}

-- two lists of extents with the same total have a zero both or neither
same-zero : (es fs : List ℕ) → total es ≡ total fs → has_zero es ≡ false → has_zero fs ≡ false
same-zero es fs e z = no_zero_test fs (total_nozero fs (subst (λ (n : ℕ). 0 < n) e (total_some es (no_zero_of es z))))

module _ (mc : Machine) (es sizes : List ℕ) (ss : List ℤ) (u : Purpose) (h : planning_refused mc es sizes ss u ≡ None) where
  abbrev M : ℕ
  M = length sizes

  abbrev P : Plan
  P = the_plan mc es sizes ss u

  a : Accepted es sizes ss u
  a = accepted es sizes ss u (planning_layout mc es sizes ss u h)

  -- the plan's axes, and operand k's strides in the plan and in the layout
  abbrev pe : List ℕ
  pe = extents (plan_axes es M ss u)

  abbrev pr : ℕ → List ℤ
  pr k = row k (plan_axes es M ss u)

  abbrev lr : ℕ → List ℤ
  lr k = stride_row ss (length es) k

  extents_is : plan_extents P ≡ pe
  extents_is = planned-extents mc es sizes ss u h

  row_is : (k : ℕ) → k < length sizes → plan_row P k ≡ pr k
  unfolding plan_from
  row_is k l = table_row (plan_axes es M ss u) M k (plan_few es sizes ss u a) a.few l

  -- ---- one operand that starts at z: no offset leaves in the plan exactly if none does in the layout

  module _ (k : ℕ) (l : k < length sizes) (z : ℤ) (nz : NoZero es) where
    nz' : NoZero pe
    nz' = total_nozero pe (subst (λ (n : ℕ). 0 < n) (sym (plan_total es M ss u)) (total_some es nz))

    long : length (lr k) ≡ length es
    long = length_strides ss (length es) M k a.strides l

    long' : length (pr k) ≡ length pe
    long' = length-row k (plan_axes es M ss u) ∙ sym (length-extents (plan_axes es M ss u))

    operand_to : leaves pe (pr k) z ≡ false → leaves es (lr k) z ≡ false
    operand_to g = (row9_exact es (lr k) z long nz).1 each
      where
        each : (x : List ℕ) → Within es x → in_i64 (z +ℤ dot x (lr k)) ≡ true
        each x w =
            let y : List ℕ = index_in_plan es M ss u x in
            let v : Within pe y = plan_in es M ss u x w in
            let d : dot y (pr k) ≡ dot x (lr k) = same-dot es M ss u y v a.strides k l ∙ ap (λ (i : List ℕ). dot i (lr k)) (orig_plan es M ss u x w) in
            ap (λ (o : ℤ). in_i64 (z +ℤ o)) (sym d) ∙ (row9_exact pe (pr k) z long' nz').0 g y v

    operand_from : leaves es (lr k) z ≡ false → leaves pe (pr k) z ≡ false
    operand_from g = (row9_exact pe (pr k) z long' nz').1 each
      where
        each : (y : List ℕ) → Within pe y → in_i64 (z +ℤ dot y (pr k)) ≡ true
        each y v =
            ap (λ (o : ℤ). in_i64 (z +ℤ o)) (same-dot es M ss u y v a.strides k l)
            ∙ (row9_exact es (lr k) z long nz).0 g (original_index es M ss u y) (orig_in es M ss u y v)

  -- ---- the rows

  module _ (bs : List ℕ) (zs : List ℤ) where
    abbrev layout_at : ℕ → Bool
    layout_at k = leaves es (lr k) (get_or zs k (pos 0))

    abbrev plan_at : ℕ → Bool
    plan_at k = leaves (plan_extents P) (plan_row P k) (get_or zs k (pos 0))

    at_is : (k : ℕ) → k < length sizes → plan_at k ≡ leaves pe (pr k) (get_or zs k (pos 0))
    at_is k l = ap₂ (λ (e : List ℕ) (t : List ℤ). leaves e t (get_or zs k (pos 0))) extents_is (row_is k l)

    total_is : total (plan_extents P) ≡ total es
    total_is = ap total extents_is ∙ plan_total es M ss u

    -- what a beginning says of the layout
    pub begins_to : begin_refused (replaced (the_plan mc es sizes ss u) bs) zs ≡ None
        → (length zs ≡ length sizes) × ((row9 es (length sizes) (stride_row ss (length es)) zs).applies ≡ false)
    unfolding begin_refused NoneApplies
    begins_to b =
        let n : NoneApplies (begin_rows (replaced P bs) zs) = none_applies (begin_rows (replaced P bs) zs) b in
        let many : length zs ≡ P.operands = eqb-true (length zs) P.operands (not-false (eqb (length zs) P.operands) n.1.1.1.1.0) in
        let nine : (not (has_zero (plan_extents P)) && some_of plan_at 0 P.operands) ≡ false = n.1.1.1.1.1.0 in (
          many ∙ planned_operands mc es sizes ss u h,
          passes-unless (has_zero es) (some_of layout_at 0 M)
              (λ q. let none_at : some_of plan_at 0 P.operands ≡ false = unless-passes (has_zero (plan_extents P)) (some_of plan_at 0 P.operands) nine (same-zero es (plan_extents P) (sym total_is) q) in
              some_of_none layout_at M
              (λ k l. operand_to k l (get_or zs k (pos 0)) (no_zero_of es q)
              (sym (at_is k l) ∙ some_of_at plan_at P.operands none_at k (subst (λ (m : ℕ). k < m) (sym (planned_operands mc es sizes ss u h)) l)))),
        )

    -- and back
    pub begins_from : length zs ≡ length sizes → (row9 es (length sizes) (stride_row ss (length es)) zs).applies ≡ false
        → begin_refused (replaced (the_plan mc es sizes ss u) bs) zs ≡ None
    unfolding begin_refused NoneApplies
    begins_from many nine =
        let n : NoneApplies (begin_rows P (zero_starts P)) = none_applies (begin_rows P (zero_starts P)) (planned_begins mc es sizes ss u h) in
        let eight : not (eqb (length zs) P.operands) ≡ false = ap not (eq-eqb (length zs) P.operands (many ∙ sym (planned_operands mc es sizes ss u h))) in
        let here : has_zero (plan_extents P) ≡ false → some_of plan_at 0 P.operands ≡ false =
        λ q. let q' : has_zero es ≡ false = same-zero (plan_extents P) es total_is q in
        let none_at : some_of layout_at 0 M ≡ false = unless-passes (has_zero es) (some_of layout_at 0 M) nine q' in
        some_of_none plan_at P.operands
        (λ k l. let l' : k < M = subst (λ (m : ℕ). k < m) (planned_operands mc es sizes ss u h) l in
        at_is k l' ∙ operand_from k l' (get_or zs k (pos 0)) (no_zero_of es q') (some_of_at layout_at M none_at k l')) in
        none_refuses (begin_rows (replaced P bs) zs)
        (n.0, (n.1.0, (n.1.1.0, (n.1.1.1.0, (eight, (passes-unless (has_zero (plan_extents P)) (some_of plan_at 0 P.operands) here, tt))))))

  -- and of the rows of a beginning with a start for each operand only 9 can apply
  module _ (zs : List ℤ) (many : length zs ≡ length sizes) where
    row9_alone : begin_refused P zs ≡ cond (row9 (plan_extents P) P.operands (plan_row P) zs).applies (Some Offsets) None
    unfolding begin_refused NoneApplies
    row9_alone =
        let n : NoneApplies (begin_rows P (zero_starts P)) = none_applies (begin_rows P (zero_starts P)) (planned_begins mc es sizes ss u h) in
        let eight : not (eqb (length zs) P.operands) ≡ false = ap not (eq-eqb (length zs) P.operands (many ∙ sym (planned_operands mc es sizes ss u h))) in
        rw (n.0, n.1.0, n.1.1.0, n.1.1.1.0, eight)

    pub begins_offsets : (r : Refusal) → begin_refused (the_plan mc es sizes ss u) zs ≡ Some r → r ≡ Offsets
    begins_offsets r q = go (row9 (plan_extents P) P.operands (plan_row P) zs).applies (sym row9_alone ∙ q)
      where
        go : (b : Bool) → cond b (Some Offsets) None ≡ Some r → r ≡ Offsets
        go true e = cc e
        go false e = cc e
