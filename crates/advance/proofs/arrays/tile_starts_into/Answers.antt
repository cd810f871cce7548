-- `advance::arrays::tile_starts_into` meets its contract. Assumes nothing.
use Rattle.advance.specs.Axis.{tile_at, starts_to}
use Rattle.advance.specs.Filled.{filled_none, filled_more}
use Prim.Native.Nat.{zero-le}
use native.Mathlib.Nat.{le_antisymm}
use native.Mathlib.Omega.{arith}
use mathlib.Core.Path.{◌∙◌, ap}
use Rattle.advance.proofs.arrays.tile_starts_into.Goals as goal

pub loop-i-init : goal.loop-i-init
loop-i-init c = (zero-le, c.requires.t_value ∙ filled_none _ _)

pub tile_start-requires : goal.tile_start-requires
tile_start-requires c = c.requires.rank_bound.1 _ c.loop-i-test.true

pub loop-i-preserved : goal.loop-i-preserved
loop-i-preserved c =
    let a = c.args in
    let l = c.loop-i in
    (omega arith, filled_more _ (tile_at a.w.now a.c.now) l.i _ _ l.invariant.1 c.tile_start.ensures)

pub returns : goal.returns
returns c =
    let a = c.args in
    c.loop-i.invariant.1 ∙ ap (starts_to a.w.now a.c.now) (le_antisymm c.loop-i.invariant.0 c.loop-i-test.false)
