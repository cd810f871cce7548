-- "Starts are 0.": the walk of a plan that planning hands out begins there. Every offset lies within the reach, which row 6 bounds.
-- Assumes nothing.
use Rattle.std.specs.Prelude.{◌≡◌, refl, true, ◌||◌, List, ℕ, zero, suc, ◌-◌, ◌^◌, ◌≤◌, ◌<◌, eqb, ℤ, pos, ◌+ℤ◌, ◌-ℤ◌, length, get_or, replicate, None}
use Rattle.std.proofs.Common.{sym, ap₂, ◌∙◌, subst, arith}
use Rattle.std.proofs.Math.Path.{ap}
use Rattle.std.proofs.Math.Bool.{false, not}
use Rattle.std.proofs.Math.Dec.{ltb}
use Rattle.std.proofs.Math.IntN.{+ℤ_idl}
use Rattle.std.proofs.lemmas.List.{length-replicate}
use borrow.Author.Tests.{lt-ltb, le-ltb, eq-eqb, ne_eqb}
use Rattle.strided.specs.Base.{some_of}
use Rattle.strided.specs.Layout.{has_zero, total, reach, reach_down, in_i64, max_i, max_u, row, stride_row}
use Rattle.strided.specs.Refusals.{leaves, row5, planning_refused}
use Rattle.strided.specs.Fuse.{plan_axes}
use Rattle.strided.specs.Plan.{plan_from, the_plan}
use Rattle.strided.specs.Begin.{plan_extents, plan_row, begin_rows, begin_refused}
use Rattle.strided.specs.Text.{zero_starts}
use Rattle.strided.specs.declared.Purpose.{Purpose}
use Rattle.strided.specs.declared.Plan.{Plan}
use Rattle.strided.specs.declared.Machine.{Machine}
use Rattle.laws.specs.Base.Layouts.{table_row, total_nozero}
use Rattle.laws.specs.Base.Refusals.{NoneApplies}
use Rattle.laws.specs.Base.Tests.{both_and}
use Rattle.laws.specs.Fuse.Maps.{plan_total}
use Rattle.laws.specs.Fuse.Reach.{plan_reach}
use Rattle.laws.specs.Plan.Bounds.{plan_few}
use Rattle.laws.specs.Refusals.Accepted.{Accepted, accepted}
use Rattle.laws.specs.Refusals.Operands.{some_of_none}
use Rattle.laws.specs.Refusals.Record.{planning_layout}
use Rattle.laws.specs.Refusals.Rows.{none_refuses, passes-unless}
use Rattle.laws.specs.Refusals.Zeros.{row5-total, no_zero_of, no_zero_test, total_some}
use Rattle.laws.specs.Walk.Row9.{down_reach}
use Rattle.laws.specs.Text.Totals.{planned-extents}

-- ---- from 0, no offset leaves 64 bits where the reach fits

below-zero : (n : ℕ) → n < 2 ^ 63 → in_i64 (pos 0 -ℤ pos n) ≡ true
below-zero zero h = refl
below-zero (suc n) h = rw (lt-ltb 0 (suc n) (omega arith)) (lt-ltb (suc n - 1) (2 ^ 63) (omega arith))

zero-stays : (es : List ℕ) (ts : List ℤ) → reach es ts ≤ max_i → leaves es ts (pos 0) ≡ false
zero-stays es ts h =
    let d = down_reach es ts in
    let up : in_i64 (pos 0 +ℤ pos (reach es ts - reach_down es ts)) ≡ true =
    ap in_i64 (+ℤ_idl (pos (reach es ts - reach_down es ts))) ∙ lt-ltb (reach es ts - reach_down es ts) (2 ^ 63) (omega arith) in
    ap not (both_and (in_i64 (pos 0 -ℤ pos (reach_down es ts))) (in_i64 (pos 0 +ℤ pos (reach es ts - reach_down es ts))) (below-zero (reach_down es ts) (omega arith)) up)

start_zero : (n k : ℕ) → get_or (replicate n (pos 0)) k (pos 0) ≡ pos 0
start_zero zero k = refl
start_zero (suc n) zero = refl
start_zero (suc n) (suc k) = start_zero n k

-- ---- the plan

module _ (mc : Machine) (es sizes : List ℕ) (ss : List ℤ) (u : Purpose) (h : planning_refused mc es sizes ss u ≡ None) where
  abbrev P : Plan
  P = the_plan mc es sizes ss u

  a : Accepted es sizes ss u
  a = accepted es sizes ss u (planning_layout mc es sizes ss u h)

  pub planned_operands : (the_plan mc es sizes ss u).operands ≡ length sizes
  unfolding plan_from
  planned_operands = refl

  pub planned-rank : (the_plan mc es sizes ss u).rank ≤ 64
  unfolding plan_from
  planned-rank = plan_few es sizes ss u a

  row_is : (k : ℕ) → k < length sizes → plan_row P k ≡ row k (plan_axes es (length sizes) ss u)
  unfolding plan_from
  row_is k l =
      table_row (plan_axes es (length sizes) ss u) (length sizes) k (plan_few es sizes ss u a) a.few l

  total_is : total (plan_extents P) ≡ total es
  total_is = ap total (planned-extents mc es sizes ss u h) ∙ plan_total es (length sizes) ss u

  zero-back : has_zero (plan_extents P) ≡ false → has_zero es ≡ false
  zero-back z = no_zero_test es (total_nozero es (subst (λ (n : ℕ). 0 < n) total_is (total_some (plan_extents P) (no_zero_of (plan_extents P) z))))

  near : has_zero (plan_extents P) ≡ false → (k : ℕ) → k < length sizes → reach (plan_extents P) (plan_row P k) ≤ max_i
  near z k l =
      let y : has_zero es ≡ false = zero-back z in
      let e : reach (plan_extents P) (plan_row P k) ≡ reach es (stride_row ss (length es) k) =
      ap₂ reach (planned-extents mc es sizes ss u h) (row_is k l) ∙ plan_reach es (length sizes) ss u (no_zero_of es y) a.strides k l in
      subst (λ (n : ℕ). n ≤ max_i) (sym e) (a.near y k l)

  abbrev M : ℕ
  M = P.operands

  stays : has_zero (plan_extents P) ≡ false → (k : ℕ) → k < M → leaves (plan_extents P) (plan_row P k) (get_or (zero_starts P) k (pos 0)) ≡ false
  stays z k l =
      ap (leaves (plan_extents P) (plan_row P k)) (start_zero M k)
      ∙ zero-stays (plan_extents P) (plan_row P k) (near z k (subst (λ (n : ℕ). k < n) planned_operands l))

  -- the beginning is not refused
  pub planned_begins : begin_refused (the_plan mc es sizes ss u) (zero_starts (the_plan mc es sizes ss u)) ≡ None
  unfolding begin_refused NoneApplies
  planned_begins =
      let one : 1 ≤ M = omega (arith, planned_operands, a.one) in
      let few : M ≤ 8 = omega (arith, planned_operands, a.few) in
      let two : (eqb M 0 || ltb 8 M) ≡ false = rw (ne_eqb M 0 (λ q. absurd (omega arith))) (le-ltb 8 M few) in
      let five : (row5 (plan_extents P)).applies ≡ false = row5-total (plan_extents P) ∙ le-ltb max_u (total (plan_extents P)) (omega (arith, total_is, a.cells)) in
      let six : has_zero (plan_extents P) ≡ false → some_of (λ k. ltb max_i (reach (plan_extents P) (plan_row P k))) 0 M ≡ false =
      λ z. some_of_none (λ k. ltb max_i (reach (plan_extents P) (plan_row P k))) M
      (λ k l. le-ltb max_i (reach (plan_extents P) (plan_row P k)) (near z k (subst (λ (n : ℕ). k < n) planned_operands l))) in
      let eight : not (eqb (length (zero_starts P)) M) ≡ false = ap not (eq-eqb (length (zero_starts P)) M (length-replicate M (pos 0))) in
      let nine : has_zero (plan_extents P) ≡ false → some_of (λ k. leaves (plan_extents P) (plan_row P k) (get_or (zero_starts P) k (pos 0))) 0 M ≡ false =
      λ z. some_of_none (λ k. leaves (plan_extents P) (plan_row P k) (get_or (zero_starts P) k (pos 0))) M (stays z) in
      none_refuses (begin_rows P (zero_starts P))
      (le-ltb 64 P.rank planned-rank, (two, (five, (passes-unless (has_zero (plan_extents P)) _ six, (eight, (passes-unless (has_zero (plan_extents P)) _ nine, tt))))))
