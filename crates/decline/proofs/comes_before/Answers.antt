-- `decline::comes_before` meets its contract: the sizes that were read are the definition's, and each answer rewrites by the test that led
-- there. Assumes nothing.
use borrow.Author.Tests.{eq-eqb, ne_eqb}
use Rattle.decline.proofs.comes_before.Goals as goal

pub returns-then-a-b : goal.returns-then-a-b
returns-then-a-b c = rw (← c.stride_size-a.ensures, ← c.stride_size-b.ensures, eq-eqb _ _ c.if-a-b.true)

pub returns-else-a-b : goal.returns-else-a-b
returns-else-a-b c = rw (← c.stride_size-a.ensures, ← c.stride_size-b.ensures, ne_eqb _ _ c.if-a-b.false)
