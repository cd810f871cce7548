-- `numpy::units::Unit::element_strides` meets its contract: each stride is turned as `element_stride` says.
-- Assumes nothing.
use borrow.Author.Rules.{rules}
use lib.IntN.{pos}
use Rattle.numpy.specs.Numpy.{element_stride}
use Rattle.numpy.proofs.Fills.{turned-map}
use Rattle.numpy.proofs.units.Unit.element_strides.Goals as goal

pub returns : goal.returns
returns c = turned-map _ (element_stride c.args.self.size) (pos 0) c.args.row.strides.now c.turned.ensures (λ x y q. search rules)
