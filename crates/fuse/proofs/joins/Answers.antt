-- `fuse::joins` meets its contract: a product that fits is compared, and one that does not fit joins nothing. Assumes nothing.
use Rattle.std.proofs.Common.{rules}
use Rattle.fuse.proofs.joins.Goals as goal

pub returns : goal.returns
returns c = search rules
