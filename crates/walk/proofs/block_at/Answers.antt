-- `walk::block_at` meets its contract. Assumes nothing.
use Rattle.walk.proofs.Stepping.{roomy_here, block_step}
use Rattle.walk.proofs.Widths.{length_read}
use mathlib.Core.List.{[]}
use mathlib.Core.Path.{refl}
use Rattle.walk.proofs.block_at.Goals as goal

pub length_by-length-requires : goal.length_by-length-requires
length_by-length-requires c = (roomy_here _ _ c.requires refl []).within 0

pub advance_on-more-requires : goal.advance_on-more-requires
advance_on-more-requires c = roomy_here _ _ c.requires refl _

pub returns : goal.returns
returns c =
    block_step _ _ c.requires refl _ refl (length_read _ (roomy_here _ _ c.requires refl []).axes c.args.counters c.width_on.ensures c.length_by-length.ensures) c.firsts-strides.ensures c.advance_on-more.ensures.1
