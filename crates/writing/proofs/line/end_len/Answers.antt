-- `writing::line::end_len` meets its contract: its fields are those of a Z line.
-- Assumes nothing.
use mathlib.Core.List.{[], ◌∷◌}
use native.Mathlib.Omega.{arith}
use Rattle.writing.proofs.Lines.{line_measured, figures_is}
use Rattle.writing.proofs.line.end_len.Goals as goal

pub returns : goal.returns
returns c =
    let a = c.args in
    (line_measured 90 (a.blocks ∷ a.cells ∷ []) [] (figures_is _ _) c.line_len.ensures.0, omega (arith, c.line_len.ensures.1))
