-- `decline::slabs_share_no_line` meets its contract: each way out rewrites by the tests that led there. Assumes nothing.
use borrow.Author.Tests.{eq-eqb, ne_eqb}
use Rattle.decline.proofs.slabs_share_no_line.Goals as goal

pub returns-then-size-eq0 : goal.returns-then-size-eq0
returns-then-size-eq0 c = rw (← c.size-size.ensures, eq-eqb _ _ c.if-size-eq0.true)

pub returns-then-whole_lines : goal.returns-then-whole_lines
returns-then-whole_lines c = rw (← c.tail_separated.ensures, ← c.size-size.ensures, ne_eqb _ _ c.if-size-eq0.false, ← c.whole_lines.ensures, c.if-whole_lines.true)

pub returns-else-whole_lines : goal.returns-else-whole_lines
returns-else-whole_lines c = rw (← c.size-size.ensures, ne_eqb _ _ c.if-size-eq0.false, ← c.whole_lines.ensures, c.if-whole_lines.false)
