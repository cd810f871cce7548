-- `session::check::blocks_right` meets its contract. Assumes nothing.
use Rattle.session.proofs.Holding.{decides_as, decides_both}
use Rattle.session.proofs.check.blocks_right.Goals as goal

pub returns : goal.returns
returns c =
    decides_as (decides_both c.costs_right-costs.result c.cut_right-cut.result c.costs_right-costs.ensures c.cut_right-cut.ensures)
    (λ q. record { costs = q.0; blocks = q.1 })
    (λ b. (b.costs, b.blocks))
