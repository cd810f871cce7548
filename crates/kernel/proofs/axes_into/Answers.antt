-- `kernel::axes_into` meets its contract: the axes in the order of fusing, fused, make the plan's axes. Assumes nothing.
use lib.ListN.{length}
use Rattle.strided.specs.Base.{padded}
use Rattle.strided.specs.Layout.{extents}
use Rattle.strided.specs.Plan.{stride_table}
use Rattle.arrange.specs.Fusing.{in_order_lem, as_planned}
use Rattle.kernel.proofs.axes_into.Goals as goal

pub plan_axes_into-requires : goal.plan_axes_into-requires
plan_axes_into-requires c =
    let l = c.args.layout in
    let z = c.requires.zeros in
    record { order = in_order_lem l.extents.now l.operands l.strides.now c.args.purpose l.fits.rank-few c.fusing_order_into.ensures.order; zeros = (z.extents, z.strides) }

pub returns : goal.returns
returns c =
    let l = c.args.layout in
    let es = l.extents.now in
    let ss = l.strides.now in
    let few = l.fits.rank-few in
    let is = c.fusing_order_into.ensures.order in
    let found = c.plan_axes_into.ensures in
    record { rank = as_planned es l.operands ss c.args.purpose few is length found.rank; extents = as_planned es l.operands ss c.args.purpose few is (λ xs. padded 64 0 (extents xs)) found.extents; strides = as_planned es l.operands ss c.args.purpose few is (λ xs. stride_table xs l.operands) found.strides }
