-- `block::compute_blocks_at` calls itself on the next tail, which has an axis less.
use Rattle.region.specs.Tail.{axes}
use Rattle.block.proofs.+compute_blocks_at.Given as goal

abbrev pub decreases-compute_blocks_at : goal.decreases-compute_blocks_at
decreases-compute_blocks_at l = axes l.tail
