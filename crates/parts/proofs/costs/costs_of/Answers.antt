-- `parts::costs::costs_of` meets its contract. Assumes nothing.
use mathlib.Core.Path.{refl}
use Rattle.parts.proofs.Fusing.{few-made}
use Rattle.parts.proofs.costs.costs_of.Goals as goal

pub costs_into-requires : goal.costs_into-requires
costs_into-requires c =
    let l = c.args.layout in
    record { operands = c.requires; pitch = refl; rank = few-made l.extents.now l.operands l.strides.now c.args.purpose l.fits c.axes_into-rank.ensures.rank; zeros = refl }
