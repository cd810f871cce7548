-- `joining::moves::keep` meets its contract. Assumes nothing.
use mathlib.Core.Path.{◌≡◌, refl, sym, ap, ◌∙◌, subst}
use Prim.Native.Nat.{ℕ}
use native.Mathlib.Omega.{arith}
use Rattle.strided.specs.Base.{padded}
use Rattle.strided.specs.Costs.{costs}
use Rattle.session.specs.declared.Numbers.{Numbers}
use Rattle.session.specs.Made.{AxesAt, Cuttable, with_plan}
use Rattle.session.proofs.Holding.{cuttable, parts_kept}
use Rattle.joining.proofs.moves.keep.Goals as goal
use Rattle.joining.proofs.moves.keep.Goals.{After-planned-numbers}

-- the numbers have the plan's
counted : (c : After-planned-numbers) → c.planned-numbers.result ≡ with_plan c.args.laid.now.numbers c.planned-numbers.result.plan_rank
counted c = c.planned-numbers.ensures ∙ ap (with_plan c.args.laid.now.numbers) (sym (ap (λ (x : Numbers). x.plan_rank) c.planned-numbers.ensures))

-- its axes are in the arrays
axes : (c : After-planned-numbers) → let a = c.args.laid.now in let l = c.axes_kept_into-axes.new in
    AxesAt a.numbers a.extents.now a.strides.now c.planned-numbers.result.plan_rank c.weights_kept_into.new.weights l.es l.plan_strides
axes c =
    let a = c.args.laid.now in
    let l = c.axes_kept_into-axes.new in
    subst (λ (r : ℕ). AxesAt a.numbers a.extents.now a.strides.now r c.weights_kept_into.new.weights l.es l.plan_strides)
    (sym (ap (λ (x : Numbers). x.plan_rank) c.planned-numbers.ensures)) c.axes_kept_into-axes.ensures

-- and can be cut
cut : (c : After-planned-numbers) → let a = c.args.laid.now in let l = c.axes_kept_into-axes.new in Cuttable c.planned-numbers.result a.extents.now a.sizes.now l.es l.plan_strides
cut c = let a = c.args.laid.now in cuttable a.numbers a.extents.now a.sizes.now a.strides.now c.requires.layout_right c.planned-numbers.result (counted c) (axes c)

pub costs_into-requires : goal.costs_into-requires
costs_into-requires c =
    let t = cut (goal.at.costs_into-requires c).After-planned-numbers in
    let f = ap (λ (x : Numbers). x.plan_rank) c.planned-numbers.ensures in
    let plan = t.plan in
    record { operands = t.one; pitch = refl; rank = omega (arith, plan, f); zeros = refl }

pub blocks_kept_into-requires : goal.blocks_kept_into-requires
blocks_kept_into-requires c = cut (goal.at.blocks_kept_into-requires c).After-planned-numbers

pub returns : goal.returns
returns c =
    let a = c.args.laid.now in
    let at = (goal.at.returns c).After-planned-numbers in
    let f = ap (λ (x : Numbers). x.plan_rank) c.planned-numbers.ensures in
    let S = c.axes_kept_into-axes.new.plan_strides in record {
      numbers = counted at;
      kept = parts_kept a.numbers a.extents.now a.sizes.now a.strides.now c.requires.layout_right c.planned-numbers.result (counted at) (axes at)
          (record { costs = c.costs_into.ensures ∙ ap (λ (r : ℕ). padded 64 0 (costs S c.planned-numbers.result.operands r)) (sym f); blocks = c.blocks_kept_into.ensures });
    }
