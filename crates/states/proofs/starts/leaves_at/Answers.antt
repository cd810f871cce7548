-- `states::starts::leaves_at` meets its contract. Assumes nothing.
use Rattle.states.proofs.Ways.{placed_part, low_le_part, too_low_part, high_test_part}
use Rattle.std.proofs.Common.{rules}
use mir.Facts.{to_z-of_z}
use mir.Syntax.{w64}
use Rattle.states.proofs.starts.leaves_at.Goals as goal

pub span_of-span-requires : goal.span_of-span-requires
span_of-span-requires c = placed_part _ _ _ _ _ c.requires

pub overflow_sub-span : goal.overflow_sub-span
overflow_sub-span c = low_le_part _ _ _ _ _ c.requires _ c.span_of-span.ensures.1 _ c.span_of-span.ensures.0

pub returns-else-not-room_below : goal.returns-else-not-room_below
returns-else-not-room_below c =
    high_test_part _ _ _ _ _ c.requires _ c.span_of-span.ensures.1 _ c.span_of-span.ensures.0 _ (to_z-of_z {w = w64} (search rules)) c.room_below.ensures c.if-not-room_below.false c.room_above.ensures

pub returns-then-not-room_below : goal.returns-then-not-room_below
returns-then-not-room_below c =
    rw c.if-not-room_below.true (too_low_part _ _ _ _ _ c.requires _ c.span_of-span.ensures.1 _ c.span_of-span.ensures.0 _ (to_z-of_z {w = w64} (search rules)) c.room_below.ensures c.if-not-room_below.true)
