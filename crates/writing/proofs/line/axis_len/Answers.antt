-- `writing::line::axis_len` meets its contract: its fields are those of an A line.
-- Assumes nothing.
use mathlib.Core.List.{[], ◌∷◌}
use native.Mathlib.Omega.{arith}
use Rattle.writing.proofs.Lines.{line_measured, axis_is}
use Rattle.writing.proofs.line.axis_len.Goals as goal

pub returns : goal.returns
returns c =
    let a = c.args in
    (line_measured 65 (a.axis ∷ a.extent ∷ a.block ∷ []) a.strides.now (axis_is _ _ _ a.strides.now) c.line_len.ensures.0, omega (arith, c.line_len.ensures.1))
