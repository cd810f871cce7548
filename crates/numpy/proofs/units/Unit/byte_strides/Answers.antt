-- `numpy::units::Unit::byte_strides` meets its contract: each stride is turned as `byte_stride` says.
-- Assumes nothing.
use borrow.Author.Rules.{rules}
use lib.IntN.{pos}
use Rattle.numpy.specs.Numpy.{byte_stride}
use Rattle.numpy.proofs.Fills.{turned-map}
use Rattle.numpy.proofs.units.Unit.byte_strides.Goals as goal

pub returns : goal.returns
returns c = turned-map _ (byte_stride c.args.self.size) (pos 0) c.args.row.strides.now c.turned.ensures (λ x y q. search rules)
