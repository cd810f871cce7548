-- `fuse::kept_axes_into` meets its contract. The invariant: those kept of the first i places are found. Assumes nothing.
use mathlib.Core.Path.{◌≡◌, refl, ap, ◌∙◌}
use Prim.Native.Nat.{◌<◌}
use lib.ListN.{length, get_or, set}
use native.Mathlib.Omega.{arith}
use Rattle.laws.specs.Base.Filling.{fill_none}
use Rattle.fuse.proofs.Keeping.{found_one, found_other}
use Rattle.fuse.proofs.kept_axes_into.Goals as goal
use Rattle.fuse.proofs.kept_axes_into.Goals.{then-f-ne1, else-f-ne1}

pub loop-i-init : goal.loop-i-init
loop-i-init g c =
    let z = c.requires.zeros in
    record { few = omega arith; lengths = z.0 ∙ fill_none 64 0; names = z.1 ∙ fill_none 64 0; number = refl }

pub overflow_cast-axes : goal.overflow_cast-axes
overflow_cast-axes g c =
    let at : c.axis.result ≡ get_or (g.O.Order.names c.args.order) c.loop-i.i 0 = c.axis.ensures in
    omega (arith, c.requires.inside c.loop-i.i c.loop-i-test.true)

pub loop-i-preserved : goal.loop-i-preserved
loop-i-preserved g c =
    let i = c.loop-i.i in
    let k = c.if-f-ne1 in
    let F = c.args.fused.now in
    let h : i < length c.args.fused.now = omega (arith, c.requires.arrays) in
    let s : i < 64 = omega (arith, c.requires.arrays) in
    elim k.branch [
      | then-f-ne1 w ↦
          let at : w.axis.result ≡ get_or (g.O.Order.names c.args.order) i 0 = w.axis.ensures in
          found_other F (g.O.Order.names c.args.order) c.loop-i.extents c.loop-i.axes i c.loop-i.count h s c.loop-i.invariant k.extents k.axes k.count w.if-f-ne1.true w.extents-is (w.axes-is ∙ ap (set c.loop-i.axes c.loop-i.count) at) w.count-is
      | else-f-ne1 w ↦ found_one F (g.O.Order.names c.args.order) c.loop-i.extents c.loop-i.axes i c.loop-i.count h s c.loop-i.invariant k.extents k.axes k.count w.if-f-ne1.false w.extents-is w.axes-is w.count-is
    ]
