-- `gougelily::texts::gougelily_walklist` meets its contract: an output is within the lent bytes, so its length is a number for C.
-- Assumes nothing.
use native.Mathlib.Omega.{arith}
use Rattle.laws.specs.Text.Answers.{lists_within}
use Rattle.gougelily.proofs.texts.gougelily_walklist.Goals as goal

pub length_code-requires : goal.length_code-requires
length_code-requires c = λ n e. let w = lists_within c.walklist-listed.ensures n e in let g = c.well_formed in omega (arith, w, g.1.0.1)
