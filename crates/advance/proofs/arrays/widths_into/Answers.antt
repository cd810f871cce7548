-- `advance::arrays::widths_into` meets its contract. Assumes nothing.
use Rattle.advance.specs.Arrays.{width_in, widths_in}
use Rattle.advance.specs.Filled.{filled_none, filled_more}
use Prim.Native.Nat.{zero-le}
use native.Mathlib.Nat.{le_antisymm}
use native.Mathlib.Omega.{arith}
use mathlib.Core.Path.{◌∙◌, ap}
use Rattle.advance.proofs.arrays.widths_into.Goals as goal

pub loop-i-init : goal.loop-i-init
loop-i-init c = (zero-le, c.requires.w_value ∙ filled_none _ _)

pub loop-i-preserved : goal.loop-i-preserved
loop-i-preserved c =
    let a = c.args in
    let l = c.loop-i in
    (omega arith, filled_more _ (width_in a.rank a.e.now a.b.now) l.i _ _ l.invariant.1 c.width_of.ensures)

pub returns : goal.returns
returns c =
    let a = c.args in
    c.loop-i.invariant.1 ∙ ap (widths_in a.rank a.e.now a.b.now) (le_antisymm c.loop-i.invariant.0 c.loop-i-test.false)
