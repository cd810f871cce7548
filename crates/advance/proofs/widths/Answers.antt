-- `advance::widths` meets its contract: the plan's arrays are handed on. Assumes nothing.
use Rattle.strided.specs.declared.Plan.{Plan}
use Rattle.advance.specs.Axis.{widths}
use mathlib.Core.Path.{◌≡◌, subst}
use Rattle.advance.proofs.widths.Goals as goal

pub returns : goal.returns
returns c = subst (λ (p : Plan). c.widths.result ≡ widths p) c.plan.view_is c.widths.ensures
