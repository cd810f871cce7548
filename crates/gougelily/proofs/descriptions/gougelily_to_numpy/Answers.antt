-- `gougelily::descriptions::gougelily_to_numpy` meets its contract: an output is within the lent bytes, so its length is a number for C.
-- Assumes nothing.
use mathlib.Core.Path.{sym, ap, ◌∙◌}
use native.Mathlib.Omega.{arith}
use Rattle.strided.specs.Text.{Listing}
use Rattle.numpy.proofs.Telling.{back_within}
use Rattle.gougelily.proofs.descriptions.gougelily_to_numpy.Goals as goal

pub length_code-requires : goal.length_code-requires
length_code-requires c = λ n e.
    let a = c.args in
    let w = back_within a.size a.extents.now a.strides.now a.room.now n (sym (ap (λ (l : Listing). l.answer) c.to_numpy-listed.ensures) ∙ e) in
    let g = c.well_formed in
    omega (arith, w, g.1.1.0.1)
