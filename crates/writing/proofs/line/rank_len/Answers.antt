-- `writing::line::rank_len` meets its contract: its fields are those of a K line.
-- Assumes nothing.
use mathlib.Core.List.{[], ◌∷◌}
use native.Mathlib.Omega.{arith}
use Rattle.writing.proofs.Lines.{line_measured, rank_is}
use Rattle.writing.proofs.line.rank_len.Goals as goal

pub returns : goal.returns
returns c =
    let a = c.args in
    (line_measured 75 (a.rank ∷ []) [] (rank_is _) c.line_len.ensures.0, omega (arith, c.line_len.ensures.1))
