-- `reading::line::read_operands` meets its contract: the loop keeps `Lining`: whoever reads the lines that are left has read all. A
-- line takes more bytes than its rank, so `from` does not wrap.
-- Assumes nothing.
use borrow.Author.Rules.{rules}
use Rattle.reading.proofs.Lines.{lining_short, lining_turn, lining_bad}
use Rattle.reading.proofs.line.read_operands.Goals as goal

pub returns-in_err-size : goal.returns-in_err-size
returns-in_err-size c =
    rw c.from_residual.ensures (lining_bad c.loop-k.invariant c.loop-k-test.true (c.read_operand.ensures.bad c.in_err-size.was))

pub overflow_add-from : goal.overflow_add-from
overflow_add-from c =
    let h = lining_short c.loop-k.invariant (c.read_operand.ensures.value _ _ c.in_ok-size.was) in
    search rules

pub loop-k-preserved : goal.loop-k-preserved
loop-k-preserved c =
    rw c.keep.ensures (lining_turn c.loop-k.invariant (c.read_operand.ensures.value _ _ c.in_ok-size.was) c.loop-k-test.true)
