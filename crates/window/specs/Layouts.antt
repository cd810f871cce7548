-- THE WINDOW'S LAYOUT: what the entry serves is a layout that planning takes, and its operands' strides are the parent's, stepped.
-- Assumes nothing.
use Rattle.std.proofs.Math.Path.{◌≡◌, refl, ap}
use Rattle.std.proofs.Common.{sym, ◌∙◌, subst, mul-le-mul_left}
use Rattle.std.proofs.Math.Bool.{Bool}
use Rattle.std.specs.Prelude.{false, ◌||◌, not, ℕ, suc, ◌+◌, ◌*◌, ◌≤◌, ◌<◌, ltb, eqb, pos, drop, None, Ok}
use mathlib.Core.List.{List, [], ◌∷◌}
use Rattle.std.proofs.Math.Nat.{mul_comm}
use native.Mathlib.Omega.{arith}
use Rattle.std.proofs.Math.IntN.{ℤ}
use Rattle.std.proofs.Math.ListN.{length, take}
use borrow.Author.Tests.{ltb-false, eqb-true, not-false}
use Rattle.strided.specs.Base.{padded, some_of}
use Rattle.strided.specs.Layout.{stride_row, chosen, has_zero, reach, max_i}
use Rattle.strided.specs.Machine.{Allowed}
use Rattle.strided.specs.Refusals.{missing, layout_refused, planning_refused}
use Rattle.strided.specs.declared.Machine.{Machine}
use Rattle.strided.specs.declared.Purpose.{Purpose}
use Rattle.laws.specs.Refusals.Rows.{served_none}
use Rattle.laws.specs.Base.Tests.{or_none}
use Rattle.laws.specs.Base.Rows.{length_strides, length_over, row-over}
use Rattle.laws.specs.Base.Refusals.{NoneApplies, none_applies}
use Rattle.laws.specs.Base.Arrays.{take_counted}
use Rattle.laws.specs.Base.Filling.{length-rows}
use Rattle.laws.specs.Refusals.Rows.{unless-passes}
use Rattle.laws.specs.Refusals.Operands.{some_of_at}
use Rattle.laws.specs.Refusals.Zeros.{no_zero_of, no_zero_test}
use Rattle.laws.specs.Refusals.Accepted.{Accepted, accepted, accepted_back, other_purpose, accepted_within}
use Rattle.laws.specs.Refusals.Record.{planning_as}
use Rattle.window.specs.declared.Windowed.{Windowed}
use Rattle.window.specs.Window.{stepped_row, window_strides, shift_of, window_shifts, axis_wrong_at, stride_over, lists_wrong, window_rows, window_refused, windowed}
use Rattle.window.specs.Indices.{Lies, all_lie, window_total, window_reach, parent_nozero}

pub length-stepped : (ns : List ℕ) (st ts : List ℤ) → length st ≡ length ns → length ts ≡ length ns → length (stepped_row ns st ts) ≡ length ns
length-stepped [] st ts p q = refl
length-stepped (n ∷ ns) [] ts p q = absurd (omega arith)
length-stepped (n ∷ ns) (s ∷ st) [] p q = absurd (omega arith)
length-stepped (n ∷ ns) (s ∷ st) (t ∷ ts) p q = ap suc (length-stepped ns st ts (omega arith) (omega arith))

-- ---- a window that is not refused

-- the lists have one entry per axis
pub lists_right : (rank f n s : ℕ) → lists_wrong rank f n s ≡ false → (f ≡ rank) × (n ≡ rank) × (s ≡ rank)
lists_right rank f n s h =
    let p = or_none (not (eqb f rank)) (not (eqb n rank) || not (eqb s rank)) h in
    let q = or_none (not (eqb n rank)) (not (eqb s rank)) p.1 in (
      eqb-true f rank (not-false (eqb f rank) p.0),
      eqb-true n rank (not-false (eqb n rank) q.0),
      eqb-true s rank (not-false (eqb s rank) q.1),
    )

pub record WindowTaken (es : List ℕ) (operands : ℕ) (ss : List ℤ) (fs ns : List ℕ) (st : List ℤ) : Type 0 where
  -- rows 1, 2, 3 and 6 of the parent
  pub axes : length es ≤ 64
  pub few : operands ≤ 8
  pub strides : length ss ≡ length es * operands
  pub near : has_zero es ≡ false → (k : ℕ) → k < operands → reach es (stride_row ss (length es) k) ≤ max_i
  pub firsts : length fs ≡ length es
  pub counts : length ns ≡ length es
  pub steps : length st ≡ length es
  pub lies : Lies es fs ns st
  -- the new strides are 64-bit signed
  pub held : some_of (stride_over (window_strides ns st ss (length es) (operands))) 0 (length (window_strides ns st ss (length es) (operands))) ≡ false

module _ (es sizes : List ℕ) (ss : List ℤ) (fs ns : List ℕ) (st : List ℤ) where
  abbrev far_at : ℕ → Bool
  far_at k = ltb max_i (reach es (stride_row ss (length es) k))

  pub window_taken : window_refused es sizes ss fs ns st ≡ None → WindowTaken es (length sizes) ss fs ns st
  unfolding window_refused NoneApplies
  window_taken h =
      let a : NoneApplies (window_rows es sizes ss fs ns st) = none_applies (window_rows es sizes ss fs ns st) h in
      let wrong : Bool = some_of (axis_wrong_at es fs ns st) 0 (length es) in
      let ws : List ℤ = window_strides ns st ss (length es) (length sizes) in
      let leaves : Bool = some_of (stride_over ws) 0 (length ws) in
      let p = or_none (lists_wrong (length es) (length fs) (length ns) (length st)) (wrong || leaves) a.1.1.1.1.1.0 in
      let q = or_none wrong leaves p.1 in
      let l = lists_right (length es) (length fs) (length ns) (length st) p.0 in
      record {
        axes = ltb-false 64 (length es) a.0;
        few = ltb-false 8 (length sizes) (or_none (eqb (length sizes) 0) (ltb 8 (length sizes)) a.1.0).1;
        strides = eqb-true (length ss) (length es * length sizes) (not-false (eqb (length ss) (length es * length sizes)) a.1.1.0);
        near = λ q k l. ltb-false max_i (reach es (stride_row ss (length es) k)) (some_of_at far_at (length sizes) (unless-passes (has_zero es) (some_of far_at 0 (length sizes)) a.1.1.1.1.0 q) k l);
        firsts = l.0;
        counts = l.1;
        steps = l.2;
        lies = all_lie es fs ns st l.0 l.1 l.2 (some_of_at (axis_wrong_at es fs ns st) (length es) q.0);
        held = q.1;
      }

  -- the entry serves exactly if it does not refuse
  pub served_window : {w : Windowed} → windowed es sizes ss fs ns st ≡ Ok w → window_refused es sizes ss fs ns st ≡ None
  unfolding windowed
  served_window h = served_none (window_refused es sizes ss fs ns st) _ h

  module _ (w : WindowTaken es (length sizes) ss fs ns st) where
    abbrev M : ℕ
    M = length sizes

    abbrev ws : List ℤ
    ws = window_strides ns st ss (length es) M

    even : (j : ℕ) → 0 ≤ j → j < 0 + length sizes → length (stepped_row ns st (stride_row ss (length es) j)) ≡ length es
    even j a b =
        length-stepped ns st (stride_row ss (length es) j) (w.steps ∙ sym w.counts) (length_strides ss (length es) (length sizes) j w.strides (omega arith) ∙ sym w.counts)
        ∙ w.counts

    -- the strides are counted as row 3 counts them
    pub window_count : length (window_strides ns st ss (length es) (length sizes)) ≡ length ns * length sizes
    unfolding window_strides
    window_count =
        length_over (length es) (λ k. stepped_row ns st (stride_row ss (length es) k)) M 0 even ∙ mul_comm M (length es)
        ∙ ap (λ (n : ℕ). n * M) (sym w.counts)

    -- operand k's strides are the parent's, stepped
    pub window_row : (k : ℕ) → k < length sizes
        → stride_row (window_strides ns st ss (length es) (length sizes)) (length ns) k ≡ stepped_row ns st (stride_row ss (length es) k)
    unfolding window_strides
    window_row k h =
        let z : 0 + k ≡ k = omega arith in
        ap (λ (n : ℕ). take n (drop (k * n) ws)) w.counts
        ∙ row-over (length es) (λ k. stepped_row ns st (stride_row ss (length es) k)) M 0 k even h
        ∙ ap (λ (j : ℕ). stepped_row ns st (stride_row ss (length es) j)) z

    pub parent_zero : has_zero ns ≡ false → has_zero es ≡ false
    parent_zero q = no_zero_test es (parent_nozero w.lies (no_zero_of ns q))

    -- an operand reaches no further than in the parent
    pub operand_reach : (k : ℕ) → k < length sizes
        → reach ns (stride_row (window_strides ns st ss (length es) (length sizes)) (length ns) k) ≤ reach es (stride_row ss (length es) k)
    operand_reach k h =
        subst (λ (ts : List ℤ). reach ns ts ≤ reach es (stride_row ss (length es) k)) (sym (window_row k h)) (window_reach w.lies (stride_row ss (length es) k))

    -- THE WINDOW'S LAYOUT IS NOT REFUSED WHERE THE PARENT IS NOT
    pub window_accepted : (u : Purpose) → Accepted es sizes ss u → Accepted ns sizes (window_strides ns st ss (length es) (length sizes)) u
    window_accepted u a = accepted_within a ns ws w.counts window_count (window_total w.lies) operand_reach

    -- IT IS PLANNED, on every allowed machine and for every purpose whose chosen operand is there
    pub window_planned : (u : Purpose) → layout_refused es sizes ss u ≡ None → (mc : Machine) (v : Purpose) → Allowed mc → missing (length sizes) (chosen v) ≡ false
        → planning_refused mc ns sizes (window_strides ns st ss (length es) (length sizes)) v ≡ None
    window_planned u h mc v m c =
        planning_as mc ns sizes ws v m ∙ accepted_back ns sizes ws v (window_accepted v (other_purpose (accepted es sizes ss u h) v c))

    -- ---- what is handed out: the arrays hold the window's lists

    pub length_shifts : length (window_shifts fs ns ss (length es) (length sizes)) ≡ length sizes
    unfolding window_shifts
    length_shifts = length-rows (λ k. shift_of fs ns (stride_row ss (length es) k)) 0 (length sizes)

    pub handed-extents : take (length es) (padded 64 0 ns) ≡ ns
    handed-extents = take_counted 0 64 (length es) ns w.counts w.axes

    pub handed_strides_lem : take (length es * length sizes) (padded 512 (pos 0) (window_strides ns st ss (length es) (length sizes)))
        ≡ window_strides ns st ss (length es) (length sizes)
    handed_strides_lem =
        let n : length es * M ≤ length es * 8 = mul-le-mul_left (length es) w.few in
        let a : length es ≤ 64 = w.axes in
        take_counted (pos 0) 512 (length es * M) ws (window_count ∙ ap (λ (n : ℕ). n * M) w.counts) (omega (arith, n, a))

    pub handed_shifts_lem : take (length sizes) (padded 8 (pos 0) (window_shifts fs ns ss (length es) (length sizes))) ≡ window_shifts fs ns ss (length es) (length sizes)
    handed_shifts_lem = take_counted (pos 0) 8 (length sizes) (window_shifts fs ns ss (length es) (length sizes)) length_shifts w.few
