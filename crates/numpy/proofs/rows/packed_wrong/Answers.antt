-- `numpy::rows::packed_wrong` meets its contract.
-- Assumes nothing.
use mathlib.Core.Path.{sym, ◌∙◌}
use borrow.Author.Tests.{ne_eqb}
use Rattle.numpy.proofs.Peaks.{peaked_test}
use Rattle.numpy.proofs.rows.packed_wrong.Goals as goal

pub returns-else-size-eq0 : goal.returns-else-size-eq0
returns-else-size-eq0 c = λ vs rest l r.
    peaked_test c.args.size c.peak.result vs (c.peak.ensures vs rest l r) ∙ sym (rw (ne_eqb c.args.size 0 c.if-size-eq0.false))
