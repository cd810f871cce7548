-- `advance::place::Place::tile_goal` meets its contract. Assumes nothing.
use Rattle.advance.proofs.Axis.{tile_ahead, tile_back}
use Rattle.advance.proofs.place.Place.tile_goal.Goals as goal

pub returns-then-self : goal.returns-then-self
returns-then-self c = tile_ahead _ _ _ _ c.args.self.begins c.if-self.true

pub returns-else-self : goal.returns-else-self
returns-else-self c = tile_back _ _ _ _ c.args.self.begins c.if-self.false
