-- STARTS: a start that the parent's walk takes is taken, shifted, by the window's walk. Assumes nothing.
use Rattle.std.specs.Prelude.{◌≡◌, refl, Bool, true, false, cond, List, [], ◌∷◌, ℕ, zero, suc, ◌+◌, ◌<◌, ℤ, pos, ◌+ℤ◌, length, get_or, None, Ok, Option}
use Rattle.std.proofs.Common.{sym, ap₂, ◌∙◌}
use Rattle.std.proofs.Math.Path.{ap}
use native.Mathlib.Omega.{arith}
use Rattle.std.proofs.Math.IntN.{+ℤ_assoc}
use Rattle.strided.specs.Base.{some_of}
use Rattle.strided.specs.Layout.{Within, has_zero, dot, in_i64, stride_row}
use Rattle.strided.specs.Refusals.{leaves, row9, planning_refused, served_unless}
use Rattle.strided.specs.Begin.{begin_refused, begun_at, started}
use Rattle.strided.specs.Demand3.{replaced}
use Rattle.strided.specs.declared.Machine.{Machine}
use Rattle.strided.specs.declared.Purpose.{Purpose}
use Rattle.laws.specs.Base.Lists.{get_d_run}
use Rattle.laws.specs.Base.Rows.{length_strides}
use Rattle.laws.specs.Refusals.Operands.{some_of_at, some_of_none}
use Rattle.laws.specs.Refusals.Rows.{served_none, passes-unless, unless-passes}
use Rattle.laws.specs.Base.Layouts.{total_nozero, within-total}
use Rattle.laws.specs.Refusals.Zeros.{no_zero_of, no_zero_test}
use Rattle.laws.specs.Plan.Begins.{begins_to, begins_from}
use Rattle.laws.specs.Walk.Row9.{row9_exact}
use Rattle.window.specs.Window.{parent_index, window_strides, shift_of, window_shifts, shifted}
use Rattle.window.specs.Indices.{parent_within, parent_dot}
use Rattle.window.specs.Layouts.{WindowTaken, length-stepped, window_row, parent_zero, length_shifts}
use Rattle.strided.specs.Plan.{the_plan}
use Rattle.strided.specs.declared.Refusal.{Refusal}
use Rattle.strided.specs.declared.Walk.{Walk}

pub length-shifted : (zs ds : List ℤ) → length (shifted zs ds) ≡ length zs
length-shifted [] ds = refl
length-shifted (z ∷ zs) [] = refl
length-shifted (z ∷ zs) (d ∷ ds) = ap suc (length-shifted zs ds)

pub get_d_shifted : (zs ds : List ℤ) (k : ℕ) → k < length zs → k < length ds → get_or (shifted zs ds) k (pos 0) ≡ get_or zs k (pos 0) +ℤ get_or ds k (pos 0)
get_d_shifted [] ds k h g = absurd (bad h)
  where
    bad : k < 0 → ⊥
    bad h = omega arith
get_d_shifted (z ∷ zs) [] k h g = absurd (bad g)
  where
    bad : k < 0 → ⊥
    bad h = omega arith
get_d_shifted (z ∷ zs) (d ∷ ds) zero h g = refl
get_d_shifted (z ∷ zs) (d ∷ ds) (suc k) h g = get_d_shifted zs ds k (omega arith) (omega arith)

module _ (es sizes : List ℕ) (ss : List ℤ) (fs ns : List ℕ) (st : List ℤ) (w : WindowTaken es (length sizes) ss fs ns st) where
  abbrev M : ℕ
  M = length sizes

  abbrev ws : List ℤ
  ws = window_strides ns st ss (length es) M

  abbrev ds : List ℤ
  ds = window_shifts fs ns ss (length es) M

  -- operand k's strides in the parent
  abbrev lr : ℕ → List ℤ
  lr k = stride_row ss (length es) k

  pub shift_at : (k : ℕ) → k < length sizes → get_or (window_shifts fs ns ss (length es) (length sizes)) k (pos 0) ≡ shift_of fs ns (stride_row ss (length es) k)
  unfolding window_shifts
  shift_at k h = let z : 0 + k ≡ k = omega arith in get_d_run (λ j. shift_of fs ns (lr j)) (pos 0) M 0 k h ∙ ap (λ (j : ℕ). shift_of fs ns (lr j)) z

  -- OFFSETS AGREE: the shift and the window index times the window's strides are the parent index times the parent's strides
  pub window_offset : (x : List ℕ) → Within ns x → (k : ℕ) → k < length sizes
      → get_or (window_shifts fs ns ss (length es) (length sizes)) k (pos 0) +ℤ dot x (stride_row (window_strides ns st ss (length es) (length sizes)) (length ns) k)
      ≡ dot (parent_index fs st x) (stride_row ss (length es) k)
  window_offset x v k h =
      let q : has_zero ns ≡ false = no_zero_test ns (total_nozero ns (within-total ns x v)) in
      let d : shift_of fs ns (lr k) ≡ dot fs (lr k) = ap (λ (b : Bool). cond b (pos 0) (dot fs (lr k))) q in
      ap₂ (λ (y : ℤ) (ts : List ℤ). y +ℤ dot x ts) (shift_at k h ∙ d) (window_row es sizes ss fs ns st w k h) ∙ parent_dot w.lies (lr k) x v

  module _ (zs : List ℤ) (many : length zs ≡ length sizes) where
    -- the shifted start, with an offset of the window, is the start with an offset of the parent
    shifted_offset : (x : List ℕ) → Within ns x → (k : ℕ) → k < length sizes
        → get_or (shifted zs ds) k (pos 0) +ℤ dot x (stride_row ws (length ns) k) ≡ get_or zs k (pos 0) +ℤ dot (parent_index fs st x) (lr k)
    shifted_offset x v k h =
        ap (λ (z : ℤ). z +ℤ dot x (stride_row ws (length ns) k)) (get_d_shifted zs ds k (omega arith) (omega (arith, length_shifts es sizes ss fs ns st w)))
        ∙ +ℤ_assoc (get_or zs k (pos 0)) (get_or ds k (pos 0)) (dot x (stride_row ws (length ns) k))
        ∙ ap (λ (o : ℤ). get_or zs k (pos 0) +ℤ o) (window_offset x v k h)

    abbrev parent_at : ℕ → Bool
    parent_at k = leaves es (lr k) (get_or zs k (pos 0))

    abbrev window_at : ℕ → Bool
    window_at k = leaves ns (stride_row ws (length ns) k) (get_or (shifted zs ds) k (pos 0))

    one_start : has_zero ns ≡ false → (k : ℕ) → k < length sizes → parent_at k ≡ false → window_at k ≡ false
    one_start q k h g = (row9_exact ns (stride_row ws (length ns) k) (get_or (shifted zs ds) k (pos 0)) long (no_zero_of ns q)).1 each
      where
        rows : length (lr k) ≡ length es
        rows = length_strides ss (length es) M k w.strides h

        long : length (stride_row ws (length ns) k) ≡ length ns
        long = ap length (window_row es sizes ss fs ns st w k h) ∙ length-stepped ns st (lr k) (w.steps ∙ sym w.counts) (rows ∙ sym w.counts)

        each : (x : List ℕ) → Within ns x → in_i64 (get_or (shifted zs ds) k (pos 0) +ℤ dot x (stride_row ws (length ns) k)) ≡ true
        each x v =
            ap in_i64 (shifted_offset x v k h)
            ∙ (row9_exact es (lr k) (get_or zs k (pos 0)) rows (no_zero_of es (parent_zero es sizes ss fs ns st w q))).0 g (parent_index fs st x) (parent_within w.lies x v)

    -- ROW 9: starts that it accepts for the parent are accepted, shifted, for the window
    pub window_row9 : (row9 es (length sizes) (stride_row ss (length es)) zs).applies ≡ false
        → (row9 ns (length sizes) (stride_row (window_strides ns st ss (length es) (length sizes)) (length ns)) (shifted zs (window_shifts fs ns ss (length es) (length sizes)))).applies
        ≡ false
    window_row9 nine =
        passes-unless (has_zero ns) (some_of window_at 0 M)
        (λ q. some_of_none window_at M
        (λ k l. one_start q k l (some_of_at parent_at M (unless-passes (has_zero es) (some_of parent_at 0 M) nine (parent_zero es sizes ss fs ns st w q)) k l)))

  -- AND SO DOES THE WALK: where a walk of the parent's plan begins, a walk of the window's plan begins at the shifted starts, whatever the
  -- machines, the purposes and the block sizes
  module _ (mc : Machine) (u : Purpose) (h : planning_refused mc es sizes ss u ≡ None) (bs : List ℕ) where
    pub window_begins : (mc' : Machine) (v : Purpose) → planning_refused mc' ns sizes (window_strides ns st ss (length es) (length sizes)) v ≡ None → (cs : List ℕ) (zs : List ℤ)
        → {w : Walk} → begun_at (replaced (the_plan mc es sizes ss u) bs) zs ≡ Ok w
        → begun_at (replaced (the_plan mc' ns sizes (window_strides ns st ss (length es) (length sizes)) v) cs)
        (shifted zs (window_shifts fs ns ss (length es) (length sizes)))
        ≡ Ok (started (replaced (the_plan mc' ns sizes (window_strides ns st ss (length es) (length sizes)) v) cs)
        (shifted zs (window_shifts fs ns ss (length es) (length sizes))))
    unfolding begun_at
    window_begins mc' v g cs zs s =
        let b = begins_to mc es sizes ss u h bs zs (served_none (begin_refused (replaced (the_plan mc es sizes ss u) bs) zs) _ s) in
        ap (λ (o : Option Refusal). served_unless o (started (replaced (the_plan mc' ns sizes ws v) cs) (shifted zs ds)))
        (begins_from mc' ns sizes ws v g cs (shifted zs ds) (length-shifted zs ds ∙ b.0) (window_row9 zs b.0 b.1))
