-- `numpy::from_numpy_into` meets its contract: what was read is what the text says, and it is told.
-- Assumes nothing.
use mathlib.Core.Path.{ap, ◌∙◌}
use mathlib.Core.List.{[]}
use Rattle.std.specs.Prelude.{Some}
use lib.IntN.{pos}
use Rattle.numpy.proofs.Telling.{into_zeros, laid-take, laid-behind, said-from}
use Rattle.numpy.specs.Readers.{saying}
use Rattle.numpy.proofs.from_numpy_into.Goals as goal

pub from_packed-requires-clause-shape : goal.from_packed-requires-clause-shape
from_packed-requires-clause-shape c =
    let w = c.read_description.ensures.packed _ _ _ (c.in-Some-Packed.is ∙ ap Some c.in-Some-Packed.field-0-is) in
    record { es = w.0; count = w.1.axes; row = w.2; laid = λ h. laid-take 0 _ w.0 c.in-Some-Packed.rank (into_zeros w.0 w.3 c.requires.zeros.0) w.1.axes h }

pub from_packed-requires-clause-zeros : goal.from_packed-requires-clause-zeros
from_packed-requires-clause-zeros c =
    let w = c.read_description.ensures.packed _ _ _ (c.in-Some-Packed.is ∙ ap Some c.in-Some-Packed.field-0-is) in
    (λ h. laid-behind 0 _ w.0 c.in-Some-Packed.rank (into_zeros w.0 w.3 c.requires.zeros.0) w.1.axes h, w.4 ∙ c.requires.zeros.1)

pub from_given-requires-clause-strides : goal.from_given-requires-clause-strides
from_given-requires-clause-strides c =
    let w = c.read_description.ensures.given _ _ _ (c.in-Some-Given.is ∙ ap Some c.in-Some-Given.field-0-is) in
    record { ts = w.1; count = w.2.strides_fit.0; row = w.3; laid = λ h. laid-take (pos 0) _ w.1 c.in-Some-Given.rank (into_zeros w.1 w.5 c.requires.zeros.1) w.2.strides_fit.0 h }

pub from_given-requires-clause-zeros : goal.from_given-requires-clause-zeros
from_given-requires-clause-zeros c =
    let w = c.read_description.ensures.given _ _ _ (c.in-Some-Given.is ∙ ap Some c.in-Some-Given.field-0-is) in
    (λ h. laid-behind 0 _ w.0 c.in-Some-Given.rank (into_zeros w.0 w.4 c.requires.zeros.0) w.2.axes h, λ h. laid-behind (pos 0) _ w.1 c.in-Some-Given.rank (into_zeros w.1 w.5 c.requires.zeros.1) w.2.strides_fit.0 h)

pub returns-in-Some-Packed : goal.returns-in-Some-Packed
returns-in-Some-Packed c =
    let w = c.read_description.ensures.packed _ _ _ (c.in-Some-Packed.is ∙ ap Some c.in-Some-Packed.field-0-is) in
    said-from _ w.1 (c.from_packed.ensures w.0 [] w.1.axes w.2 (λ h. laid-take 0 _ w.0 c.in-Some-Packed.rank (into_zeros w.0 w.3 c.requires.zeros.0) w.1.axes h))

pub returns-in-Some-Given : goal.returns-in-Some-Given
returns-in-Some-Given c =
    let w = c.read_description.ensures.given _ _ _ (c.in-Some-Given.is ∙ ap Some c.in-Some-Given.field-0-is) in
    said-from (saying c.in-Some-Given.size c.in-Some-Given.rank w.0 (Some w.1)) w.2
    (c.from_given.ensures w.1 [] w.2.strides_fit.0 w.3 w.0 w.2.axes
    (λ h. laid-take 0 _ w.0 c.in-Some-Given.rank (into_zeros w.0 w.4 c.requires.zeros.0) w.2.axes h)
    (λ h. laid-take (pos 0) _ w.1 c.in-Some-Given.rank (into_zeros w.1 w.5 c.requires.zeros.1) w.2.strides_fit.0 h))
