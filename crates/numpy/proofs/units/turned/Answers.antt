-- `numpy::units::turned` meets its contract: after i turns the array holds what f made of the last i numbers, the last one first.
-- Assumes nothing.
use Rattle.numpy.proofs.Fills.{turning_turn, turning_end}
use Rattle.numpy.proofs.units.turned.Goals as goal

pub loop-i-preserved : goal.loop-i-preserved
loop-i-preserved g c = turning_turn _ _ _ c.loop-i.i c.requires.len c.loop-i-test.true c.loop-i.invariant c.index-numbers-j.is c.f.ensures

pub returns : goal.returns
returns g c = turning_end _ _ _ c.loop-i.i c.loop-i-test.false c.loop-i.invariant
