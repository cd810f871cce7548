-- `advance::arrays::width_of` meets its contract. Assumes nothing.
use Rattle.advance.specs.Axis.{width_of}
use borrow.Author.Tests.{le-leb, lt-leb, eq-eqb, ne_eqb}
use mathlib.Core.Path.{◌∙◌}
use Rattle.advance.proofs.arrays.width_of.Goals as goal
use Rattle.advance.proofs.arrays.width_of.Goals.{else-rank-gt8-via-then-rank-gt8+else-axis-ne0, else-rank-gt8-via-else-rank-gt8}

pub returns-then-axis-ne0 : goal.returns-then-axis-ne0
unfolding width_of
returns-then-axis-ne0 c = simp (lt-leb _ _ c.if-rank-gt8.true, ne_eqb _ _ c.if-axis-ne0.true)

pub returns-else-rank-gt8 : goal.returns-else-rank-gt8
unfolding width_of
returns-else-rank-gt8 c =
    c.effective.ensures
    ∙ elim c.else-rank-gt8.branch [
      | else-rank-gt8-via-then-rank-gt8+else-axis-ne0 w ↦ simp (lt-leb _ _ w.if-rank-gt8.true, eq-eqb _ _ w.if-axis-ne0.false)
      | else-rank-gt8-via-else-rank-gt8 w ↦ simp (le-leb _ _ w.if-rank-gt8.false)
    ]
