-- `kernel::plan_into` meets its contract: at most 1,024 cells are fused as they are given and keep their extents as blocks, more are put into the
-- loop order and cut. Assumes nothing.
use mathlib.Core.Path.{sym, ◌∙◌}
use native.Mathlib.Omega.{arith}
use lib.ListN.{length}
use borrow.Author.Tests.{leb-false}
use Rattle.arrange.specs.Axes.{in_given}
use Rattle.strided.specs.Base.{padded}
use Rattle.strided.specs.Layout.{total, extents}
use Rattle.strided.specs.Plan.{stride_table}
use Rattle.laws.specs.Plan.Bounds.{plan_few}
use Rattle.kernel.proofs.Plans.{plannable, given_planned, made_small, made-cut}
use Rattle.kernel.proofs.plan_into.Goals as goal

pub plan_axes_into-rank-requires : goal.plan_axes_into-rank-requires
plan_axes_into-rank-requires c = let z = c.requires.zeros in record { order = in_given (length c.args.layout.extents.now); zeros = (z.extents, z.strides) }

pub returns-then-total_at_most : goal.returns-then-total_at_most
returns-then-total_at_most c =
    let a = c.args in
    let es = a.layout.extents.now in
    let m = length a.sizes.now in
    let ss = a.layout.strides.now in
    let u = a.aim.purpose in
    let small = sym c.total_at_most.ensures ∙ c.if-total_at_most.true in
    let e = c.plan_axes_into-rank.ensures in
    let o = c.requires.operands in
    made_small es a.sizes.now ss u c.requires.accepted c.plan_axes_into-rank.result _ _
    (given_planned es m ss u small length (rw o at e.rank))
    (given_planned es m ss u small (λ xs. padded 64 0 (extents xs)) (rw o at e.extents))
    (given_planned es m ss u small (λ xs. stride_table xs m) (rw o at e.strides))
    a.aim.machine small

pub invariant_of-axes : goal.invariant_of-axes
invariant_of-axes c =
    let a = c.args in
    let few = plan_few a.layout.extents.now a.sizes.now a.layout.strides.now a.aim.purpose c.requires.accepted in
    record { few = c.requires.accepted.few; to = omega (arith, few, rw c.requires.operands at c.axes_into-rank.ensures.rank); all = omega arith }

pub block_sizes_into-requires : goal.block_sizes_into-requires
block_sizes_into-requires c =
    let a = c.args in
    let e = c.axes_into-rank.ensures in
    let o = c.requires.operands in
    record {
      allowed = c.requires.allowed;
      plannable = plannable a.layout.extents.now a.sizes.now a.layout.strides.now a.aim.purpose c.requires.accepted c.axes_into-rank.result _ _ (rw o at e.rank) (rw o at e.extents) (rw o at e.strides)
          (leb-false (total a.layout.extents.now) 1024 (sym c.total_at_most.ensures ∙ c.if-total_at_most.false));
    }

pub returns : goal.returns
returns c =
    let a = c.args in
    let e = c.axes_into-rank.ensures in
    let o = c.requires.operands in
    made-cut a.layout.extents.now a.sizes.now a.layout.strides.now a.aim.purpose c.requires.accepted c.axes_into-rank.result _ _ (rw o at e.rank) (rw o at e.extents) (rw o at e.strides) a.aim.machine
    (sym c.total_at_most.ensures ∙ c.if-total_at_most.false) _ c.block_sizes_into.ensures
