-- ROW 10, EXACT: "step on a state no begun walk reaches": a state is refused with 10 exactly if no begun walk of that plan reaches it.
-- Assumes nothing.
use Rattle.std.proofs.Math.Path.{◌≡◌, refl, sym, ap}
use Rattle.std.proofs.Common.{◌∙◌, ⊎_elim}
use Rattle.std.specs.Prelude.{◌↔◌, ◌⊎◌, Bool, ℕ, pos, length, take, drop, Option, None, Some, Err}
use Rattle.std.proofs.Math.Logic.{inl, inr}
use Rattle.std.proofs.Math.Bool.{true, false, not, not-not}
use mathlib.Core.List.{List}
use native.Mathlib.Omega.{arith}
use Rattle.std.proofs.Math.IntN.{ℤ}
use Rattle.strided.specs.Base.{padded}
use Rattle.strided.specs.Refusals.{refused_by}
use Rattle.strided.specs.Begin.{plan_extents, plan_rows, begin_refused, begun_at, started}
use Rattle.strided.specs.Step.{reachable, plan_cut_axes, unpacked, packed, tidy, blank, blank_z, may_begin, handed_out, step_rows, stepped, Reached, walk_after}
use Rattle.strided.specs.declared.Refusal.TheVariants.{State}
use Rattle.strided.specs.declared.Plan.{Plan}
use Rattle.strided.specs.declared.Walk.{Walk}
use Rattle.laws.specs.Refusals.Rows.{served_none, served_is}
use Rattle.laws.specs.Base.Tests.{and_both}
use Rattle.laws.specs.Base.Arrays.{blank-ℕ, blank-ℤ, padded-take}
use Rattle.laws.specs.Walk.States.{state_after}
use Rattle.laws.specs.Walk.Cuts.{axes_wide}
use Rattle.laws.specs.Walk.Machine.{Begun, reach-state}
use Rattle.laws.specs.Walk.Steps.{Ready, ready_sized, none_of, raw, step-at, walk-state}

-- ---- a plan and a walk as values have them

pub record Sized (p : Plan) (w : Walk) : Type 0 where
  pub extents-all : length p.extents ≡ 64
  pub counters-all : length w.counters ≡ 64
  pub offsets_all : length w.offsets ≡ 8

module _ (p : Plan) (w : Walk) (z : Sized p w) (ok : refused_by (step_rows p) ≡ None) where
  -- a reached state is not refused
  reached_taken : Reached p w → stepped p w ≡ Err State → ⊥
  unfolding begun_at
  reached_taken q h =
      let zs : List ℤ = q.starts in
      let b : begin_refused p zs ≡ None = served_none (begin_refused p zs) _ q.begins in
      let r : Ready p zs = ready_sized p zs z.extents-all b in
      let o : Option (List ℕ) = state_after (plan_cut_axes p) q.steps in
      let e : stepped p w ≡ handed_out (raw p zs r o) = ap (stepped p) (q.comes ∙ ap (walk_after p q.steps) (served_is (begin_refused p zs) _ q.begins) ∙ walk-state p zs r q.steps) ∙ step-at p zs r q.steps o refl in
      differ o zs r (sym e ∙ h)
    where
      differ : (o : Option (List ℕ)) (zs : List ℤ) (r : Ready p zs) → handed_out (raw p zs r o) ≡ Err State → ⊥
      differ None zs r h = let y : ◌≡◌ {A = ℕ} 0 1 = cc h in omega arith
      differ (Some c) zs r h = let y : ◌≡◌ {A = ℕ} 0 1 = cc h in omega arith

  -- a state that passes the test is reached
  tested_reached : tidy p w ≡ true → reachable (plan_cut_axes p) (plan_rows p) (may_begin p) (unpacked p w) ≡ true → Reached p w
  unfolding begun_at
  tested_reached t c =
      let b : Begun (plan_cut_axes p) (plan_rows p) (may_begin p) (unpacked p w) = (reach-state (plan_cut_axes p) (plan_rows p) (may_begin p) (axes_wide (plan_extents p) _) (unpacked p w)).1 c in
      let zs : List ℤ = b.starts in
      let n : begin_refused p zs ≡ None = none_of (begin_refused p zs) b.may in
      let r : Ready p zs = ready_sized p zs z.extents-all n in
      let blanks = and_both (blank (drop p.rank w.counters)) (blank_z (drop p.operands w.offsets)) t in
      let e₁ : w.ended ≡ not (not w.ended) = sym (not-not w.ended) in
      let e₂ : w.counters ≡ padded 64 0 (take p.rank w.counters) = sym (padded-take blank-ℕ 64 p.rank w.counters z.counters-all blanks.0) in
      let e₃ : w.offsets ≡ padded 8 (pos 0) (take p.operands w.offsets) = sym (padded-take blank-ℤ 8 p.operands w.offsets z.offsets_all blanks.1) in
      let back : w ≡ packed (unpacked p w) = λ i. record { ended = e₁ i; counters = e₂ i; offsets = e₃ i } in
      record {
        starts = zs;
        first = started p zs;
        begins = rw n;
        steps = b.n;
        comes = back ∙ ap packed b.comes ∙ sym (walk-state p zs r b.n);
      }

  -- and one that does not is refused
  either : (stepped p w ≡ Err State) ⊎ Reached p w
  unfolding stepped
  either = go (tidy p w) refl (reachable (plan_cut_axes p) (plan_rows p) (may_begin p) (unpacked p w)) refl
    where
      go : (a : Bool) → tidy p w ≡ a → (b : Bool) → reachable (plan_cut_axes p) (plan_rows p) (may_begin p) (unpacked p w) ≡ b
          → (stepped p w ≡ Err State) ⊎ Reached p w
      go true t true c = inr (tested_reached t c)
      go true t false c = inl (rw (ok, t, c))
      go false t b c = inl (rw (ok, t))

-- ROW 10, where rows 1 and 2 pass: a state is refused with 10 exactly if no begun walk of the plan reaches it; and taken exactly if one does
module _ (p : Plan) (w : Walk) (z : Sized p w) (ok : refused_by (step_rows p) ≡ None) where
  pub row10-refused : (stepped p w ≡ Err State) ↔ (Reached p w → ⊥)
  row10-refused = (λ h q. reached_taken p w z ok q h, λ n. ⊎_elim (λ h. h) (λ q. absurd (n q)) (either p w z ok))

  pub row10_exact : (stepped p w ≡ Err State → ⊥) ↔ Reached p w
  row10_exact = (λ n. ⊎_elim (λ h. absurd (n h)) (λ q. q) (either p w z ok), reached_taken p w z ok)
