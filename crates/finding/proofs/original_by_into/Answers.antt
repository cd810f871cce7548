-- `finding::original_by_into` meets its contract: row 11 is judged on the plan's extents, then the index is told. Assumes nothing.
use mathlib.Core.Path.{refl, sym, ap, ◌∙◌}
use mathlib.Core.List.{List}
use Prim.Native.Nat.{ℕ}
use lib.ListN.{length, take}
use Rattle.strided.specs.Layout.{within}
use Rattle.laws.specs.Base.Layouts.{true_within}
use Rattle.finding.specs.Mapped.{kept_extents, unraveled}
use Rattle.finding.proofs.Turns.{unraveled_long}
use Rattle.finding.proofs.Answers.{leaves, leaves_none}
use Rattle.finding.proofs.original_by_into.Goals as goal

pub unravel_index-requires : goal.unravel_index-requires
unravel_index-requires c =
    -- the plan's extents, and what is to be told
    let K : List ℕ = kept_extents (take (length c.args.map.extents.now) c.args.map.fused.now) in
    c.args.map.sound.positive c.args.counters.now (true_within K c.args.counters.now (sym (c.if-not-plan_within.ensures ∙ ap (λ (fs : List ℕ). within (kept_extents fs) c.args.counters.now) c.plan_fused.ensures)))

pub returns : goal.returns
returns c =
    let K : List ℕ = kept_extents (take (length c.args.map.extents.now) c.args.map.fused.now) in
    let X : List ℕ = unraveled c.args.map.extents.now c.args.map.order.now c.args.map.fused.now c.args.counters.now in
    let a = c.args in
    leaves K a.counters.now X (c.if-not-plan_within.ensures ∙ ap (λ (fs : List ℕ). within (kept_extents fs) c.args.counters.now) c.plan_fused.ensures) refl (length a.map.extents.now) _ (unraveled_long c.args.map.sound a.counters.now) c.unravel_index.ensures

pub returns-then-not-plan_within : goal.returns-then-not-plan_within
returns-then-not-plan_within c =
    let K : List ℕ = kept_extents (take (length c.args.map.extents.now) c.args.map.fused.now) in
    let X : List ℕ = unraveled c.args.map.extents.now c.args.map.order.now c.args.map.fused.now c.args.counters.now in
    leaves_none K c.args.counters.now X (c.if-not-plan_within.ensures ∙ ap (λ (fs : List ℕ). within (kept_extents fs) c.args.counters.now) c.plan_fused.ensures) refl
