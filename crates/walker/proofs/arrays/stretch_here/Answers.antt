-- `walker::arrays::stretch_here` meets its contract. Assumes nothing.
use mathlib.Core.Path.{◌∙◌}
use Rattle.advance.specs.Arrays.{length_on}
use Rattle.advance.specs.Blocks.{length_by}
use Rattle.walker.proofs.arrays.stretch_here.Goals as goal
use Rattle.walker.proofs.arrays.stretch_here.Goals.{in-None, in-Some}

pub returns : goal.returns
unfolding length_on length_by
returns c = (
  elim c.match-way.branch [
    | in-None w ↦ rw w.in-None.is w.left-is
    | in-Some w ↦ rw w.in-Some.is (w.left-is ∙ w.blocks_left-left.ensures)
  ],
  c.length_on.ensures,
)
