-- `window::shifts::sums_into` meets its contract. Assumes nothing.
use mathlib.Core.Path.{◌≡◌, ◌∙◌, ap}
use Prim.Native.Nat.{◌<◌}
use native.Mathlib.Omega.{arith}
use lib.IntN.{pos}
use mir.Syntax.{w64}
use mir.Val.{to_z, of_z}
use Rattle.strided.specs.Layout.{dot}
use Rattle.laws.specs.Base.Filling.{fill_next}
use Rattle.window.specs.Selected.{sum_at}
use Rattle.laws.specs.Base.Signs.{back}
use Rattle.window.proofs.shifts.sums_into.Goals as goal

pub loop-k-preserved : goal.loop-k-preserved
loop-k-preserved c =
    let a = c.args in
    -- the sum that is stored
    let stored : to_z w64 (of_z w64 c.shift_of.result) ≡ sum_at a.selection c.loop-k.k =
    back c.shift_of.result (record { sfits = c.shift_of.type_inv }) ∙ c.shift_of.ensures
    ∙ ap (dot a.selection.picks.firsts.now) c.row.ensures in
    let h : c.loop-k.k < 8 = omega (arith, c.loop-k-test.true, a.selection.layout.fits.operands_few) in
    (omega (arith, c.loop-k-test.true), rw (c.loop-k.invariant.1, stored) (fill_next 8 (pos 0) (sum_at a.selection) c.loop-k.k h))
