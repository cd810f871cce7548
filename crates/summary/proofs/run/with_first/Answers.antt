-- `summary::run::with_first` meets its contract: a cell between the extremes by `quiet_cell`. Assumes nothing.
use Rattle.std.proofs.Common.{sym, ◌∙◌}
use Rattle.summary.proofs.Quiet.{quiet_cell}
use Rattle.summary.proofs.run.with_first.Goals as goal

pub returns-then-adds_only : goal.returns-then-adds_only
returns-then-adds_only c = c.grown.ensures ∙ sym (quiet_cell c.args.s c.args.x (sym c.adds_only.ensures ∙ c.if-adds_only.true))
