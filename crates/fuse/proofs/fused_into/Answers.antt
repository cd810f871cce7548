-- `fuse::fused_into` meets its contract: the rows that are fused are the layout's. Assumes nothing.
use Prim.Native.Nat.{◌≤◌}
use native.Mathlib.Omega.{arith}
use lib.ListN.{length}
use Rattle.fuse.proofs.Planning.{named, put-padded, put-fused}
use Rattle.fuse.proofs.fused_into.Goals as goal

pub pick_into-requires : goal.pick_into-requires
pick_into-requires g c =
    let f = c.args.layout.fits in
    let t = c.requires.order in
    let few : length (g.O.Order.names c.args.order) ≤ 64 = omega (arith, t.all, f.rank-few) in
    record { few = few; inside = λ j h. t.inside j (omega (arith, t.all)); out = c.requires.out }

pub invariant_of-fuse_dims : goal.invariant_of-fuse_dims
invariant_of-fuse_dims g c =
    let r = c.rows-rows.ensures in
    record { named = named c.args.layout.extents.now c.args.layout.fits c.requires.order r.strides r.pitch r.operands }

pub fuse_dims-requires : goal.fuse_dims-requires
fuse_dims-requires g c =
    let r = c.rows-rows.ensures in
    put-padded c.args.layout.extents.now c.args.layout.fits c.requires.order r.strides r.pitch r.operands c.pick_into.ensures

pub returns : goal.returns
returns g c =
    let r = c.rows-rows.ensures in
    put-fused c.args.layout.extents.now c.args.layout.fits c.requires.order r.strides r.pitch r.operands c.pick_into.ensures c.fuse_dims.ensures
