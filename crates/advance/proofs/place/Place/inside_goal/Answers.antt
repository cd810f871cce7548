-- `advance::place::Place::inside_goal` meets its contract. Assumes nothing.
use Rattle.advance.proofs.Axis.{inside_ahead, inside_back, inside_last}
use Rattle.advance.proofs.place.Place.inside_goal.Goals as goal
use Rattle.advance.proofs.place.Place.inside_goal.Goals.{else-self-via-then-self+else-self-2, else-self-via-else-self}

pub returns-then-self-2 : goal.returns-then-self-2
returns-then-self-2 c = inside_ahead _ _ _ _ c.args.self.begins c.if-self.true c.if-self-2.true

pub returns-else-self : goal.returns-else-self
returns-else-self c =
    elim c.else-self.branch [
      | else-self-via-then-self+else-self-2 w ↦ inside_last _ _ _ _ c.args.self.begins w.if-self.true w.if-self-2.false
      | else-self-via-else-self w ↦ inside_back _ _ _ _ c.args.self.begins w.if-self.false
    ]
