-- `writing::line::block_len` meets its contract: its fields are those of a B line.
-- Assumes nothing.
use mathlib.Core.List.{[], ◌∷◌}
use native.Mathlib.Omega.{arith}
use Rattle.writing.proofs.Lines.{line_measured, block_is}
use Rattle.writing.proofs.line.block_len.Goals as goal

pub returns : goal.returns
returns c =
    let a = c.args in
    (line_measured 66 (a.number ∷ a.len ∷ []) a.offsets.now (block_is _ _ a.offsets.now) c.line_len.ensures.0, omega (arith, c.line_len.ensures.1))
