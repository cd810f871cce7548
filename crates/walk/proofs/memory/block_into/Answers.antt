-- `walk::memory::block_into` meets its contract. Assumes nothing.
use mathlib.Core.Path.{refl}
use mathlib.Core.List.{[], ◌∷◌}
use Rattle.walk.proofs.Widths.{length_read}
use Rattle.walk.proofs.Answered.{stepped_some}
use Rattle.walk.proofs.Stepping.{roomy_here, block_step}
use Rattle.walk.proofs.memory.block_into.Goals as goal

pub length_by-bl-requires : goal.length_by-bl-requires
length_by-bl-requires c = (roomy_here _ _ c.requires refl []).within 0

pub advance_on-more-requires : goal.advance_on-more-requires
advance_on-more-requires c = roomy_here _ _ c.requires refl _

pub returns : goal.returns
returns c =
    let last = c.advance_on-more.new in
    stepped_some (block_step _ _ c.requires refl _ refl (length_read _ (roomy_here _ _ c.requires refl []).axes c.args.counters.now c.width_on.ensures c.length_by-bl.ensures) c.firsts-bs.ensures c.advance_on-more.ensures.1)
    (λ i. record { walk = record { ended = c.flag.ensures i ∷ []; counters = last.c; offsets = last.o }; counters = c.args.counters.now; length = c.length_by-bl.result ∷ []; offsets = c.args.offsets.now; strides = c.firsts-bs.result })
