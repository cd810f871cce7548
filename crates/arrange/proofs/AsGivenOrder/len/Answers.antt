-- As many axes are named as are given. Assumes nothing.
use mathlib.Core.Path.{sym}
use Rattle.laws.specs.Base.Lists.{length_run}
use Rattle.arrange.proofs.AsGivenOrder.len.Goals as goal

pub returns : goal.returns
returns c = sym (length_run 0 c.args.self.rank)
