-- `model::cut_axes` meets its contract: costs and ranks of the code say the same as the definition's, and the tail is all axes.
-- Assumes nothing.
use mathlib.Core.Path.{◌≡◌, ap, subst⁻¹, ◌∙◌}
use mathlib.Core.List.{List}
use Prim.Native.Nat.{ℕ}
use native.Mathlib.Nat.{sub-zero}
use native.Mathlib.Omega.{arith}
use lib.ListN.{length, get_or, replicate}
use Rattle.strided.specs.Costs.{costs}
use Rattle.strided.specs.Cut.{cutting}
use Rattle.strided.specs.declared.Purpose.TheVariants.{Pointwise}
use Rattle.laws.specs.Base.Arrays.{get_d_padded}
use Rattle.laws.specs.Cut.Same.{SameCosts}
use Rattle.laws.specs.Cut.Steps.{ScoresFit}
use Rattle.laws.specs.Plan.Ranks.{ranks-same}
use Rattle.model.proofs.Rooms.{scores}
use Rattle.model.proofs.Whole.{ruled_is}
use Rattle.model.proofs.cut_axes.Goals as goal

pub compute_blocks_at-requires-clause-some : goal.compute_blocks_at-requires-clause-some
compute_blocks_at-requires-clause-some c = omega (arith, c.all.ensures.operands, c.requires.plannable.one)

pub compute_blocks_at-requires-clause-fit : goal.compute_blocks_at-requires-clause-fit
compute_blocks_at-requires-clause-fit c =
    -- the costs and the ranks that are worked out
    let costed : let a = c.args in SameCosts a.cut.axes.rank c.costs_into.new.found (costs a.cut.axes.strides.now (length a.cut.axes.sizes.now) a.cut.axes.rank) = let a = c.args in
    λ i h. ap (λ (l : List ℕ). get_or l i 0) c.costs_into.ensures ∙ get_d_padded 0 64 (costs a.cut.axes.strides.now (length a.cut.axes.sizes.now) a.cut.axes.rank) i (omega (arith, c.requires.plannable.axes)) in
    let a = c.args in
    let p = c.requires.plannable in
    subst⁻¹ (λ (n : ℕ). ScoresFit n c.costs_into.new.found a.blocks.now) c.all.ensures.rank (scores a.cut.axes.sizes.now a.blocks.now a.cut.axes.strides.now a.cut.axes.rank Pointwise p c.costs_into.new.found costed)

pub compute_blocks_at-requires-clause-told : goal.compute_blocks_at-requires-clause-told
compute_blocks_at-requires-clause-told c =
    let e = c.all.ensures in
    rw (e.machine, e.bytes, e.operands, e.offset, e.rank, sub-zero c.args.cut.axes.rank) c.requires.told

pub returns : goal.returns
returns c =
    let costed : let a = c.args in SameCosts a.cut.axes.rank c.costs_into.new.found (costs a.cut.axes.strides.now (length a.cut.axes.sizes.now) a.cut.axes.rank) = let a = c.args in
    λ i h. ap (λ (l : List ℕ). get_or l i 0) c.costs_into.ensures ∙ get_d_padded 0 64 (costs a.cut.axes.strides.now (length a.cut.axes.sizes.now) a.cut.axes.rank) i (omega (arith, c.requires.plannable.axes)) in
    let a = c.args in
    let p = c.requires.plannable in
    let ranks = c.plan_ranks_into.new.table in
    let ranked = ranks-same a.cut.axes.sizes.now a.cut.axes.strides.now a.cut.axes.rank (replicate 64 0) p.few p.axes _ c.plan_ranks_into.ensures in
    let e = c.all.ensures in
    let whole : c.compute_blocks_at.new.blocks ≡ cutting a.cut.machine.numbers a.cut.bytes.now (length a.cut.axes.sizes.now) c.costs_into.new.found ranks 0 a.cut.axes.rank a.blocks.now =
    rw (e.machine, e.bytes, e.operands, e.offset, e.rank, sub-zero a.cut.axes.rank) at c.compute_blocks_at.ensures in
    whole
    ∙ ruled_is a.cut.machine.numbers a.cut.axes.sizes.now a.blocks.now a.cut.axes.strides.now a.cut.axes.rank Pointwise c.args.cut.machine.allowed a.cut.bytes.now c.requires.images
    c.costs_into.new.found costed ranks ranked
