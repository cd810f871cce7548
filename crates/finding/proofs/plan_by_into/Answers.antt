-- `finding::plan_by_into` meets its contract: row 11 is judged on the layout's extents, then the index is told. Assumes nothing.
use mathlib.Core.Path.{◌≡◌, refl, sym, ap, ◌∙◌}
use mathlib.Core.List.{List}
use Prim.Native.Nat.{ℕ}
use Rattle.laws.specs.Base.Layouts.{true_within}
use lib.ListN.{length, take}
use Rattle.finding.specs.Mapped.{kept_extents, raveled}
use Rattle.finding.proofs.Turns.{raveled_long}
use Rattle.finding.proofs.Answers.{leaves, leaves_none}
use Rattle.finding.proofs.plan_by_into.Goals as goal
use Rattle.finding.proofs.plan_by_into.Goals.{After-plan_rank-rank}

-- the plan's axes, counted
counted : (c : After-plan_rank-rank) → let m = c.args.map in c.plan_rank-rank.result ≡ length (kept_extents (take (length m.extents.now) m.fused.now))
counted c = c.plan_rank-rank.ensures ∙ ap (λ (fs : List ℕ). length (kept_extents fs)) c.plan_fused.ensures

pub ravel_index-requires : goal.ravel_index-requires
ravel_index-requires c =
    let a = c.args in record { rank = counted (goal.at.ravel_index-requires c).After-plan_rank-rank; inside = true_within a.map.extents.now a.original.now (sym c.if-not-within.ensures) }

pub returns : goal.returns
returns c =
    let X : List ℕ = raveled c.args.map.extents.now c.args.map.order.now c.args.map.fused.now c.args.original.now in
    let a = c.args in
    leaves a.map.extents.now a.original.now X c.if-not-within.ensures refl c.plan_rank-rank.result _ (counted (goal.at.returns c).After-plan_rank-rank ∙ raveled_long c.args.map.sound a.original.now) c.ravel_index.ensures

pub returns-then-not-within : goal.returns-then-not-within
returns-then-not-within c =
    let X : List ℕ = raveled c.args.map.extents.now c.args.map.order.now c.args.map.fused.now c.args.original.now in
    leaves_none c.args.map.extents.now c.args.original.now X c.if-not-within.ensures refl
