-- `summary::summarize_served` meets its contract: the plan is made; where row 22 applies the walk's beginning tells whether 9 does, and where it
-- does not the cells are met.
-- Assumes nothing.
use mathlib.Core.Path.{◌≡◌, refl, sym, ap, ◌∙◌, subst}
use mathlib.Core.Bool.{false}
use mathlib.Core.List.{[], ◌∷◌}
use Prim.Native.Nat.{◌*◌, ◌^◌, ◌<◌}
use native.Mathlib.Omega.{arith}
use lib.IntN.{ℤ}
use lib.ListN.{length}
use mir.Facts.{to_z-of_z}
use Rattle.std.proofs.lemmas.Result.{err_from_is_err_and}
use Rattle.strided.specs.Layout.{stride_row}
use Rattle.strided.specs.Refusals.{row9}
use Rattle.strided.specs.Memory.{plan_of}
use Rattle.strided.specs.declared.Refusal.TheVariants.{Offsets, Slice}
use Rattle.strided.specs.declared.Plan.{Plan}
use Rattle.laws.specs.Refusals.Accepted.{accepted}
use Rattle.laws.specs.Refusals.Record.{planning_allowed, planning_layout}
use Rattle.span.specs.Span.{outside}
use Rattle.summary.specs.Ahead.{Summable, met}
use Rattle.summary.specs.Sums.{nothing_met}
use Rattle.summary.specs.Visits.{cell_sizes, ordering, summary_plan, visits_of}
use Rattle.kernel.proofs.Plans.{made_whole}
use Rattle.summary.proofs.Served.{spans, begins_if, if_begins, inside_stays, summable, made_plan, begun_taken, begun-refused, refused_9, refused_22, not-refused, all_summed, refused_with, served_with}
use Rattle.summary.proofs.summarize_served.Goals as goal
use Rattle.summary.proofs.summarize_served.Goals.{After-cell_outside}
use mir.Syntax.{w64}

-- where row 22 does not apply 9 does not either
stays_in : (c : After-cell_outside) → let a = c.args in outside a.layout.extents.now a.layout.strides.now a.start (length a.cells.now) ≡ false
    → (row9 a.layout.extents.now 1 (stride_row a.layout.strides.now (length a.layout.extents.now)) (a.start ∷ [])).applies ≡ false
stays_in c h =
    let a = c.args in
    let n = length a.cells.now in
    let room : n * 8 < 2 ^ 63 = omega arith in
    inside_stays a.machine a.layout.extents.now a.layout.strides.now c.requires.passed a.start n (omega (arith, room)) h

pub plan_into-rank-requires : goal.plan_into-rank-requires
plan_into-rank-requires c =
    let a = c.args in record { operands = c.requires.one; allowed = planning_allowed a.machine a.layout.extents.now cell_sizes a.layout.strides.now ordering c.requires.passed; accepted = accepted a.layout.extents.now cell_sizes a.layout.strides.now ordering (planning_layout a.machine a.layout.extents.now cell_sizes a.layout.strides.now ordering c.requires.passed); zeros = record { extents = refl; strides = refl } }

pub cell_outside-requires : goal.cell_outside-requires
cell_outside-requires c = spans c.args.machine c.args.layout.extents.now c.args.layout.strides.now c.requires.passed

pub invariant_of-plan : goal.invariant_of-plan
invariant_of-plan c = made_whole c.args.machine c.args.layout.extents.now cell_sizes c.args.layout.strides.now ordering c.requires.passed c.plan_into-rank.ensures

pub invariant_of-plan-2 : goal.invariant_of-plan-2
invariant_of-plan-2 c = made_whole c.args.machine c.args.layout.extents.now cell_sizes c.args.layout.strides.now ordering c.requires.passed c.plan_into-rank.ensures

pub returns-in_err-begin_on : goal.returns-in_err-begin_on
returns-in_err-begin_on c =
    let begin-is = rw (to_z-of_z {w = w64} c.ranges.start) at c.begin_on.ensures in
    let a = c.args in
    let p = err_from_is_err_and c.from_residual.result c.from_residual.ensures.1 in
    let nine = begun-refused a.machine a.layout.extents.now a.layout.strides.now c.requires.passed c.plan_into-rank.ensures a.start begin-is c.in_err-begin_on.was in
    rw (p.1, p.2, nine.0) (refused_with a.machine a.layout.extents.now a.layout.strides.now a.start a.cells.now Offsets
    (refused_9 a.machine a.layout.extents.now a.layout.strides.now c.requires.passed a.start a.cells.now nine.1))

pub returns-then-cell_outside : goal.returns-then-cell_outside
returns-then-cell_outside c =
    let begin-is = rw (to_z-of_z {w = w64} c.ranges.start) at c.begin_on.ensures in
    -- row 22
    let outside-is = rw (to_z-of_z {w = w64} c.ranges.start) at c.cell_outside.ensures in
    let a = c.args in
    let taken = begun_taken a.machine a.layout.extents.now a.layout.strides.now c.requires.passed c.plan_into-rank.ensures a.start begin-is c.in_ok-begin_on.was in
    refused_with a.machine a.layout.extents.now a.layout.strides.now a.start a.cells.now Slice
    (refused_22 a.machine a.layout.extents.now a.layout.strides.now c.requires.passed a.start a.cells.now
    (begins_if a.machine a.layout.extents.now a.layout.strides.now c.requires.passed a.start taken) (sym outside-is ∙ c.if-cell_outside.true))

pub summary_on-requires : goal.summary_on-requires
summary_on-requires c =
    let plan-made = made_plan c.args.machine c.args.layout.extents.now c.args.layout.strides.now c.requires.passed _ _ _ _ c.plan_into-rank.ensures in
    let outside-is = rw (to_z-of_z {w = w64} c.ranges.start) at c.cell_outside.ensures in
    let stays = stays_in (goal.at.summary_on-requires c).After-cell_outside (sym outside-is ∙ c.if-cell_outside.false) in
    -- and all cells may be met
    let all-met : Summable (summary_plan c.args.machine c.args.layout.extents.now c.args.layout.strides.now) c.args.start c.args.cells.now = let a = c.args in
    summable a.machine a.layout.extents.now a.layout.strides.now c.requires.passed a.start a.cells.now
    (if_begins a.machine a.layout.extents.now a.layout.strides.now c.requires.passed a.start stays) (sym outside-is ∙ c.if-cell_outside.false) in
    rw (to_z-of_z {w = w64} c.ranges.start) (subst (λ (p : Plan). Summable p c.args.start c.args.cells.now) (sym plan-made) all-met)

pub returns : goal.returns
returns c =
    let outside-is = rw (to_z-of_z {w = w64} c.ranges.start) at c.cell_outside.ensures in
    let stays = stays_in (goal.at.returns c).After-cell_outside (sym outside-is ∙ c.if-cell_outside.false) in
    let planMade : Plan = let m = c.plan_into-rank in plan_of m.result 1 m.new.es m.new.blocks m.new.table in
    let plan-made = made_plan c.args.machine c.args.layout.extents.now c.args.layout.strides.now c.requires.passed _ _ _ _ c.plan_into-rank.ensures in
    let a = c.args in
    served_with a.machine a.layout.extents.now a.layout.strides.now a.start a.cells.now
    (not-refused a.machine a.layout.extents.now a.layout.strides.now c.requires.passed a.start a.cells.now stays (sym outside-is ∙ c.if-cell_outside.false))
    (c.summary_on.ensures
    ∙ ap (λ (z : ℤ). met a.cells.now nothing_met (visits_of planMade z)) (to_z-of_z {w = w64} c.ranges.start)
    ∙ ap (λ (p : Plan). met a.cells.now nothing_met (visits_of p a.start)) plan-made
    ∙ all_summed a.machine a.layout.extents.now a.layout.strides.now a.start a.cells.now)
