-- `window::axis::Pick::outside` meets its contract: a law for each way out. Assumes nothing.
use mathlib.Core.Path.{◌≡◌}
use lib.IntN.{nat_abs}
use Rattle.window.specs.Axes.{room_along}
use Rattle.window.proofs.Outside.{outside-room}
use borrow.Author.Rules.{rules}
use Rattle.window.proofs.axis.Pick.outside.Goals as goal

pub returns-then-self-extent : goal.returns-then-self-extent
returns-then-self-extent c =
    let sized : c.unsigned_abs.result ≡ nat_abs c.args.self.step = search rules in
    let a = c.args in
    let r : c.room.result ≡ room_along a.extent a.self.first a.self.step = c.room.ensures in
    outside-room a.extent a.self.first a.self.count a.self.step _ _ c.if-self-eq0.false c.if-self-extent.true c.requires r sized
