-- `reading::line::read_operand` meets its contract: a law for each way out: no size, a size and no row, both. The size takes bytes, so less
-- of the text is left.
-- Assumes nothing.
use native.Mathlib.Omega.{arith}
use Rattle.reading.proofs.Lines.{size_short, operand_told, operand_open, operand_none}
use Rattle.reading.proofs.line.read_operand.Goals as goal

pub returns-in_err-size : goal.returns-in_err-size
returns-in_err-size c = rw c.from_residual.ensures (operand_none (c.read_size.ensures.bad c.in_err-size.was))

pub read_row_from-requires : goal.read_row_from-requires
read_row_from-requires c =
    let l = size_short (c.read_size.ensures.value _ _ c.in_ok-size.was) in
    omega arith

pub returns-in_err-rest : goal.returns-in_err-rest
returns-in_err-rest c =
    rw c.from_residual-in_err-rest.ensures
    (operand_open (c.read_size.ensures.value _ _ c.in_ok-size.was) (c.read_row_from.ensures.bad c.in_err-rest.was))

pub returns : goal.returns
returns c =
    operand_told (c.read_size.ensures.value _ _ c.in_ok-size.was) _ (c.read_row_from.ensures.to _ c.in_ok-rest.was)
