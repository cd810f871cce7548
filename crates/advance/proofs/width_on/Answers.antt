-- `advance::width_on` meets its contract: the plan's rank and axis are handed on. Assumes nothing.
use Rattle.strided.specs.declared.Plan.{Plan}
use Rattle.advance.specs.Axis.{width_at}
use mathlib.Core.Path.{◌≡◌, subst}
use Rattle.advance.proofs.width_on.Goals as goal

pub returns : goal.returns
returns c = subst (λ (p : Plan). c.width_of.result ≡ width_at p c.args.axis) c.plan.view_is c.width_of.ensures
