-- `reading::line::read_lines` meets its contract: a law for each way out: no E line, no O lines, all lines and the text's end or not.
-- Assumes nothing.
use mathlib.Core.Path.{sym, ◌∙◌}
use Rattle.reading.proofs.Lines.{lines_told, lines_more, lines_open, lines_none}
use Rattle.reading.proofs.line.read_lines.Goals as goal

pub returns-in_err-lines : goal.returns-in_err-lines
returns-in_err-lines c = rw c.from_residual.ensures (lines_none c.read_extents.ensures c.in_err-lines.was)

pub returns-in_err-rest : goal.returns-in_err-rest
returns-in_err-rest c = rw c.from_residual-in_err-rest.ensures (lines_open c.read_extents.ensures _ c.in_ok-lines.was c.read_operands.ensures c.in_err-rest.was)

pub returns-then-is_empty : goal.returns-then-is_empty
returns-then-is_empty c =
    lines_told c.read_extents.ensures _ c.in_ok-lines.was c.read_operands.ensures _ c.in_ok-rest.was (sym c.is_empty.ensures ∙ c.if-is_empty.true)

pub returns-else-is_empty : goal.returns-else-is_empty
returns-else-is_empty c =
    lines_more c.read_extents.ensures _ c.in_ok-lines.was c.read_operands.ensures _ c.in_ok-rest.was (sym c.is_empty.ensures ∙ c.if-is_empty.false)
