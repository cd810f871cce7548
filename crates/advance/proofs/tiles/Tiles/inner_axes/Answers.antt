-- `advance::tiles::Tiles::inner_axes` meets its contract. Assumes nothing.
use Rattle.advance.specs.Arrays.{plan_in}
use Rattle.advance.proofs.Turns.{single_on}
use Rattle.advance.proofs.tiles.Tiles.inner_axes.Goals as goal

pub returns : goal.returns
returns c = single_on (plan_in c.args.self.now) c.inner_axes.ensures
