-- `model::whole_region` meets its contract: the tail of all axes is that of the cut. Assumes nothing.
use native.Mathlib.Nat.{sub-zero}
use Rattle.model.proofs.whole_region.Goals as goal

pub returns : goal.returns
returns c =
    let e = c.all.ensures in
    rw (e.machine, e.bytes, e.operands, e.offset, e.rank, sub-zero c.args.cut.axes.rank) at c.memory_region.ensures
