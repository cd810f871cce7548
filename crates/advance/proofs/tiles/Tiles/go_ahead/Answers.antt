-- `advance::tiles::Tiles::go_ahead` meets its contract. Assumes nothing.
use native.Mathlib.Omega.{arith}
use Rattle.std.proofs.lemmas.Bool.{not-false}
use Rattle.advance.proofs.Turns.{stands_on, shifts_ahead, went_ahead, stayed}
use Rattle.advance.proofs.tiles.Tiles.go_ahead.Goals as goal

pub place-place-requires : goal.place-place-requires
place-place-requires c =
    let k = c.requires in
    record { axis_bound = omega (arith, k.roomy.axes, k.axis_lt_rank); standing = stands_on k.roomy k.tiled c.args.axis k.axis_lt_rank }

pub shift-requires : goal.shift-requires
shift-requires c =
    let k = c.requires in record { few = k.roomy.few; moves = shifts_ahead k.roomy k.tiled k.axis_lt_rank c.place-place.ensures c.inside_goal-goal.ensures }

pub returns : goal.returns
returns c =
    let k = c.requires in
    went_ahead k.roomy k.tiled k.axis_lt_rank c.place-place.ensures c.inside_goal-goal.ensures c.shift.ensures (not-false _ c.if-not-goal.false)

pub returns-then-not-goal : goal.returns-then-not-goal
returns-then-not-goal c = stayed
