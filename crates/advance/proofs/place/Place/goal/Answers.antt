-- `advance::place::Place::goal` meets its contract. Assumes nothing.
use Rattle.advance.specs.Axis.{goal_of}
use mathlib.Core.Path.{◌∙◌}
use Rattle.advance.proofs.place.Place.goal.Goals as goal

pub returns-then-inside : goal.returns-then-inside
unfolding goal_of
returns-then-inside c = c.inside_goal.ensures ∙ simp c.if-inside.true

pub returns-else-inside : goal.returns-else-inside
unfolding goal_of
returns-else-inside c = c.tile_goal.ensures ∙ simp c.if-inside.false
