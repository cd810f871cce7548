-- `numpy::units::packed_strides_into` meets its contract: the step is the product of the extents so far, which fits wherever it is stored.
-- Assumes nothing.
use mathlib.Core.Path.{◌≡◌, ◌∙◌}
use mathlib.Core.List.{map}
use Prim.Native.Nat.{◌+◌, ◌^◌, ◌≤◌, ◌<◌}
use native.Mathlib.Omega.{arith}
use lib.IntN.{pos}
use lib.ListN.{length, take}
use mir.Facts.{to_z-of_z}
use Rattle.strided.specs.Layout.{total}
use Rattle.numpy.specs.Units.{firsts}
use Rattle.numpy.proofs.Fills.{filling_turn, filling_end, packed-length, packed-at, step-near, step_turn}
use Rattle.numpy.proofs.units.packed_strides_into.Goals as goal
use mir.Syntax.{w64}

pub loop-i-preserved : goal.loop-i-preserved
loop-i-preserved c =
    let whole : let es = c.args.extents.now in (c.loop-i.step ≡ total (take c.loop-i.i es)) × (c.loop-i.step < 2 ^ 63) = let es = c.args.extents.now in
    let h = c.loop-i-test.true in
    let n = c.requires.near.1 c.loop-i.i h in
    let e = step-near es c.loop-i.i c.loop-i.step c.requires.near.1 h c.loop-i.invariant.2 in
    (e, omega (arith, e, n)) in
    let es = c.args.extents.now in
    let i = c.loop-i.i in
    let h = c.loop-i-test.true in
    let w = whole in
    let more : i + 1 ≤ length es = omega (arith, h) in
    let q = to_z-of_z {w = w64} (record { sfits = c.positive.type_inv }) ∙ c.positive.ensures ∙ packed-at es i c.loop-i.step h w.0 in (
      more,
      filling_turn (pos 0) (map pos (firsts 1 es)) (length es) i (packed-length es) c.requires.near.0 h c.loop-i.invariant.1 q,
      step_turn es i c.loop-i.step _ h w.0 c.mul_cap-step.ensures,
    )

pub returns : goal.returns
returns c =
    let es = c.args.extents.now in
    filling_end (pos 0) (map pos (firsts 1 es)) (length es) c.loop-i.i (packed-length es) c.loop-i-test.false c.loop-i.invariant.1
