-- `advance::arrays::column` meets its contract: the loop keeps the first k strides filled in.
-- Assumes nothing.
use borrow.Author.Rules.{rules}
use native.Mathlib.Nat.{le_antisymm}
use native.Mathlib.Omega.{arith}
use Prim.Native.Nat.{zero-le}
use mathlib.Core.Path.{ap, ◌∙◌}
use mir.Syntax.{w64}
use mir.Val.{SFits}
use mir.Facts.{to_z-of_z}
use Rattle.advance.specs.Filled.{filled_none, filled_more}
use Rattle.advance.specs.Blocks.{stride_on, column_to}
use Rattle.advance.proofs.arrays.column.Goals as goal

pub loop-k-init : goal.loop-k-init
loop-k-init c = (zero-le, filled_none _ _)

pub loop-k-preserved : goal.loop-k-preserved
loop-k-preserved c =
    let s = c.args.s.now in
    let fits : SFits w64 (stride_on c.args.axis s c.loop-k.k) = search rules in
    (omega arith, filled_more _ (stride_on c.args.axis s) c.loop-k.k _ _ c.loop-k.invariant.1 (to_z-of_z {w = w64} fits))

pub returns : goal.returns
returns c =
    c.loop-k.invariant.1 ∙ ap (column_to c.args.axis c.args.s.now) (le_antisymm c.loop-k.invariant.0 c.loop-k-test.false)
