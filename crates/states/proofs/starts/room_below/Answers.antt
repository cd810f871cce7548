-- `states::starts::room_below` meets its contract. Assumes nothing.
use mathlib.Core.Path.{ap, ◌∙◌}
use lib.IntN.{ℤ, pos, ◌-ℤ◌}
use mir.Syntax.{w64}
use mir.Facts.{to_z-of_z}
use Rattle.strided.specs.Layout.{in_i64}
use Rattle.states.proofs.Rooms.{fits_some}
use Rattle.states.proofs.starts.room_below.Goals as goal

pub returns : goal.returns
returns c =
    fits_some _ _ _ c.checked_sub_unsigned.ensures c.is_some.ensures
    ∙ ap (λ (z : ℤ). in_i64 (z -ℤ pos c.args.below)) (to_z-of_z {w = w64} c.ranges.o)
