-- `fuse::compress_dims` meets its contract: picking the places that stay is dropping the others. Assumes nothing.
use mathlib.Core.Path.{refl, sym}
use Prim.Native.Nat.{ℕ, ◌≤◌, ◌<◌}
use native.Mathlib.Omega.{arith}
use lib.ListN.{length}
use lib.Seq.{length-take-le}
use Rattle.fuse.specs.Kept.{stays}
use Rattle.fuse.proofs.Keeping.{Stand, stand_count, stand_few, stand_inside, stand_rank, stand_extents, stand_strides}
use Rattle.fuse.proofs.compress_dims.Goals as goal

below-256 : {x n : ℕ} → x < n → n ≤ 64 → x < 256
below-256 h k = omega arith

pub kept_axes_into-count-requires : goal.kept_axes_into-count-requires
kept_axes_into-count-requires g c =
    let t = c.args.axes.named in
    let l = c.requires.fused in
    record { arrays = (l.0, omega (arith, l.0, t.few-axes)); inside = (λ j h. below-256 (t.inside j (omega (arith, l.0))) l.1); zeros = (c.requires.zeros.0, refl) }

pub slice_bounds-kept-end : goal.slice_bounds-kept-end
slice_bounds-kept-end g c =
    let r = c.args.axes.rows in
    let k = c.kept_axes_into-count in
    let F = c.args.fused.now in
    let few : length c.args.fused.now ≤ 64 = omega (arith, c.requires.fused.0, c.args.axes.named.few-axes) in
    let count = stand_count r.strides.now r.pitch r.operands (g.O.Order.names c.args.axes.order) F few (k.ensures.count, (k.ensures.extents, k.ensures.axes)) in
    omega (arith, count, k.array_long, k.array_long2)

pub slice_bounds-picked-end : goal.slice_bounds-picked-end
slice_bounds-picked-end g c =
    let r = c.args.axes.rows in
    let k = c.kept_axes_into-count in
    let F = c.args.fused.now in
    let few : length c.args.fused.now ≤ 64 = omega (arith, c.requires.fused.0, c.args.axes.named.few-axes) in
    let count = stand_count r.strides.now r.pitch r.operands (g.O.Order.names c.args.axes.order) F few (k.ensures.count, (k.ensures.extents, k.ensures.axes)) in
    sym (length-take-le _ k.new.axes (omega (arith, count, k.array_long2)))

pub invariant_of-picked : goal.invariant_of-picked
invariant_of-picked g c =
    let r = c.args.axes.rows in
    let t = c.args.axes.named in
    let l = c.requires.fused.0 in
    let k = c.kept_axes_into-count in
    let O = g.O.Order.names c.args.axes.order in
    let F = c.args.fused.now in
    let few : length c.args.fused.now ≤ 64 = omega (arith, l, t.few-axes) in
    let w : Stand F O (stays F) k.new.extents k.new.axes k.result = (k.ensures.count, (k.ensures.extents, k.ensures.axes)) in
    record { named = record { few_operands = t.few_operands; few-axes = stand_few r.strides.now r.pitch r.operands O F few w; inside = stand_inside r.strides.now r.pitch r.operands O F few w (λ j h. t.inside j (omega (arith, l))) } }

pub pick_strides_into-requires : goal.pick_strides_into-requires
pick_strides_into-requires g c = c.requires.zeros.1

pub returns : goal.returns
returns g c =
    let r = c.args.axes.rows in
    let t = c.args.axes.named in
    let l = c.requires.fused.0 in
    let k = c.kept_axes_into-count in
    let O = g.O.Order.names c.args.axes.order in
    let F = c.args.fused.now in
    let few : length c.args.fused.now ≤ 64 = omega (arith, l, t.few-axes) in
    let w : Stand F O (stays F) k.new.extents k.new.axes k.result = (k.ensures.count, (k.ensures.extents, k.ensures.axes)) in
    record { rank = stand_rank r.strides.now r.pitch r.operands O F few w; extents = stand_extents r.strides.now r.pitch r.operands O F few w; strides = stand_strides r.strides.now r.pitch r.operands O F few w c.pick_strides_into.ensures }
