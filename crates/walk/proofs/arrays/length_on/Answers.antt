-- `walk::arrays::length_on` meets its contract. Assumes nothing.
use mathlib.Core.List.{[]}
use Rattle.strided.specs.Memory.{plan_of}
use Rattle.advance.specs.Arrays.{length_on}
use Rattle.advance.specs.Blocks.{length_by}
use Rattle.walk.proofs.Widths.{length_read}
use Rattle.walk.proofs.arrays.length_on.Goals as goal

pub returns : goal.returns
unfolding length_on length_by
returns c =
    let a = c.args in
    length_read (plan_of a.rank 0 a.extents.now a.blocks.now []) c.requires.0 a.counters.now c.width_of-width.ensures c.length_on.ensures
