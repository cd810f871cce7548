-- `advance::arrays::firsts` meets its contract. Assumes nothing.
use borrow.Author.Tests.{eq-eqb, ne_eqb}
use mathlib.Core.Path.{◌∙◌, sym}
use Rattle.advance.specs.Arrays.{firsts_in}
use Rattle.advance.specs.Blocks.{firsts_of}
use Rattle.advance.proofs.arrays.firsts.Goals as goal

pub returns-then-rank-eq0 : goal.returns-then-rank-eq0
unfolding firsts_in firsts_of
returns-then-rank-eq0 c = simp (eq-eqb _ _ c.if-rank-eq0.true)

pub returns : goal.returns
unfolding firsts_in firsts_of
returns c = c.column.ensures ∙ sym (simp (ne_eqb _ _ c.if-rank-eq0.false))
