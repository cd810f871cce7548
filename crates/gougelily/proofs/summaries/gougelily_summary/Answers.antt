-- `gougelily::summaries::gougelily_summary` meets its contract: the summary in lent memory where the call is served, and every lent byte kept
-- where it is refused. Assumes nothing.
use mathlib.Core.Path.{◌≡◌, ap}
use mathlib.Core.List.{[], ◌∷◌}
use Prim.Native.Nat.{ℕ}
use lib.IntN.{ℤ}
use mir.Facts.{to_z-of_z}
use Rattle.strided.specs.Machine.{machine_of}
use Rattle.summary.specs.Rows.{summarized}
use Rattle.summary.specs.Memory.{summary_at, summary_memory}
use Rattle.gougelily.proofs.Answers.{called, handed-refused, handed_served, read_code}
use Rattle.gougelily.proofs.summaries.gougelily_summary.Goals as goal
use Rattle.gougelily.proofs.summaries.gougelily_summary.Goals.{After-summarize}
use mir.Syntax.{w64}

-- what was answered is the definition's
summary_is : (c : After-summarize) → let a = c.args in c.summarize.result ≡ summarized (machine_of a.line a.cache a.way a.live) a.extents.now a.strides.now a.start a.cells.now
summary_is c =
    let a = c.args in
    called (λ (z : ℤ). summarized (machine_of a.line a.cache a.way a.live) a.extents.now a.strides.now z a.cells.now) c.summarize.ensures (to_z-of_z {w = w64} c.ranges.start)

pub returns-in-Err : goal.returns-in-Err
returns-in-Err c =
    handed-refused summary_memory (summary_is (goal.at.returns-in-Err c).After-summarize) c.in-Err.is
    (read_code c.negated.type_inv c.negated.ensures)

pub returns : goal.returns
returns c =
    let s = c.in-Ok.value in
    handed_served summary_memory (summary_is (goal.at.returns c).After-summarize) c.in-Ok.is
    (ap (λ (n : ℕ). summary_at (s.sum ∷ []) (s.least ∷ []) (s.greatest ∷ []) (s.count ∷ []) (s.nans ∷ []) (n ∷ [])) c.flag.ensures)
