-- The invariants of `blocks::copy_blocks`.
use Rattle.walker.proofs.Left.{left_at}
use Rattle.export.specs.Blocks.{starts_of}
use Rattle.export.proofs.Copies.{Copies}
use Rattle.export.proofs.blocks.copy_blocks.Given as goal

abbrev pub invariant-loop-more : goal.invariant-loop-more
invariant-loop-more l =
    Copies l.plan (starts_of l.fn.walk) l.width.bytes l.course.way l.course.tiling.widths l.initial.destination l.source l.more l.at l.destination

abbrev pub decreases-loop-more : goal.decreases-loop-more
decreases-loop-more l = left_at l.plan (starts_of l.fn.walk) l.more l.at
