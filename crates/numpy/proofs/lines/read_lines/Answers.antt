-- `numpy::lines::read_lines` meets its contract: a law for each way out.
-- Assumes nothing.
use mathlib.Core.Path.{sym, ◌∙◌}
use Rattle.numpy.proofs.Forms.{lines_bad, lines_strides, lines_more}
use Rattle.numpy.proofs.lines.read_lines.Goals as goal

pub returns-in_err-sizes : goal.returns-in_err-sizes
returns-in_err-sizes c = rw c.from_residual.ensures (lines_bad c.read_line.ensures c.in_err-sizes.was)

pub returns-in_err-strides : goal.returns-in_err-strides
returns-in_err-strides c =
    rw c.from_residual-in_err-strides.ensures
    (lines_strides c.read_line.ensures c.in_ok-sizes.was (sym c.is_empty.ensures ∙ c.if-is_empty.false) c.read_line-2.ensures c.in_err-strides.was)

pub returns : goal.returns
returns c =
    lines_more c.read_line.ensures c.in_ok-sizes.was (sym c.is_empty.ensures ∙ c.if-is_empty.false) c.read_line-2.ensures c.in_ok-strides.was (sym c.is_empty-2.ensures ∙ c.if-is_empty-2.false)
