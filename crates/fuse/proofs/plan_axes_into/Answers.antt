-- `fuse::plan_axes_into` meets its contract: what is fused are the layout's axes in the order. Assumes nothing.

use native.Mathlib.Omega.{arith}
use lib.ListN.{length}
use Rattle.strided.specs.Base.{padded}
use Rattle.strided.specs.Layout.{extents}
use Rattle.strided.specs.Plan.{stride_table}
use Rattle.fuse.proofs.Planning.{zeros_behind, named, made_long, as_planned}
use Rattle.fuse.proofs.plan_axes_into.Goals as goal

pub fused_into-requires : goal.fused_into-requires
fused_into-requires g c =
    let t = c.requires.order in
    record { order = t; out = zeros_behind (length (g.O.Order.names c.args.order)) (omega (arith, t.all, c.args.layout.fits.rank-few)) }

pub invariant_of-compress_dims : goal.invariant_of-compress_dims
invariant_of-compress_dims g c =
    let r = c.rows-rows.ensures in
    record { named = named c.args.layout.extents.now c.args.layout.fits c.requires.order r.strides r.pitch r.operands }

pub compress_dims-requires : goal.compress_dims-requires
compress_dims-requires g c =
    let f = c.args.layout.fits in
    let r = c.rows-rows.ensures in
    record { fused = (made_long c.args.layout.extents.now f c.requires.order r.strides r.pitch r.operands c.fused_into.ensures c.len.ensures, omega (arith, r.pitch, f.rank-few)); zeros = c.requires.zeros }

pub returns : goal.returns
returns g c =
    let f = c.args.layout.fits in
    let t = c.requires.order in
    let r = c.rows-rows.ensures in
    let made = c.fused_into.ensures in
    let found = c.compress_dims.ensures in
    record {
      rank = as_planned c.args.layout.extents.now f t r.strides r.pitch r.operands made c.len.ensures (λ xs k. length xs) found.rank;
      extents = as_planned c.args.layout.extents.now f t r.strides r.pitch r.operands made c.len.ensures (λ xs k. padded 64 0 (extents xs)) found.extents;
      strides = as_planned c.args.layout.extents.now f t r.strides r.pitch r.operands made c.len.ensures stride_table found.strides;
    }
