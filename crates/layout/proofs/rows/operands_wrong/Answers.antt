-- `layout::rows::operands_wrong` meets its contract. Assumes nothing.
use borrow.Author.Tests.{eq-eqb, ne_eqb}
use Rattle.layout.proofs.rows.operands_wrong.Goals as goal

pub returns-then-operands-eq0 : goal.returns-then-operands-eq0
returns-then-operands-eq0 c = simp (eq-eqb _ _ c.if-operands-eq0.true)

pub returns-else-operands-eq0 : goal.returns-else-operands-eq0
returns-else-operands-eq0 c = simp (ne_eqb _ _ c.if-operands-eq0.false)
