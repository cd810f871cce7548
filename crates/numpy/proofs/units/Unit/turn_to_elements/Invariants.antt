-- The invariants of `units::Unit::turn_to_elements`.
use mathlib.Core.Path.{◌≡◌}
use mathlib.Core.List.{◌++◌, map}
use lib.ListN.{take, drop}
use Rattle.numpy.specs.Numpy.{element_stride}
use Rattle.numpy.proofs.units.Unit.turn_to_elements.Given as goal

abbrev pub invariant-loop-place : goal.invariant-loop-place
invariant-loop-place l = l.strides ≡ map (element_stride l.self.size) (take l.place-index l.fn.strides) ++ drop l.place-index l.fn.strides
