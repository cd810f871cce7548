-- `numpy::rows::fold_row` meets its contract: the loop keeps `Reading` with what f has made of the numbers read.
-- Assumes nothing.
use mathlib.Core.Path.{refl}
use Rattle.std.proofs.lemmas.Fn.{FoldsTo-push}
use Rattle.numpy.proofs.Reading.{reading_start, reading_turn, reading_bad, reading_end}
use Rattle.numpy.proofs.rows.fold_row.Goals as goal

pub loop-init : goal.loop-init
loop-init g c = let m = g.T.Number in reading_start m.text m.fits _ _ _ refl

pub returns-in_default : goal.returns-in_default
returns-in_default g c =
    let m = g.T.Number in
    reading_bad m.text m.fits _ c.loop.invariant _ c.loop-test.true (c.field.ensures.bad c.in_default.is)

pub loop-preserved : goal.loop-preserved
loop-preserved g c =
    let m = g.T.Number in
    reading_turn m.text m.fits _ c.loop.invariant _ g.met.T.Number.once c.loop-test.true (c.field.ensures.value _ _ c.in-Some.is)
    (λ xs h. FoldsTo-push _ _ xs _ _ _ h c.f-a.ensures)

pub returns : goal.returns
returns g c = let m = g.T.Number in reading_end m.text m.fits _ c.loop.invariant c.loop-test.false
