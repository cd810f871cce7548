-- `walker::route::Route::stretch_here` meets its contract. Assumes nothing.
use mathlib.Core.Path.{refl, ◌∙◌}
use Rattle.advance.specs.Blocks.{length_by}
use Rattle.walker.proofs.Leading.{left_axes}
use Rattle.walker.proofs.route.Route.stretch_here.Goals as goal

pub returns : goal.returns
unfolding length_by
returns c = (c.stretch_here.ensures.0 ∙ left_axes c.args.self.now.way _ _ _ _ refl, c.stretch_here.ensures.1)
