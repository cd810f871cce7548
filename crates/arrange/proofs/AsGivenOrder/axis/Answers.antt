-- The order of axes as they are given names each axis at its own place. Assumes nothing.
use mathlib.Core.Path.{sym}
use native.Mathlib.Omega.{arith}
use Rattle.laws.specs.Base.Lists.{length_run}
use Rattle.arrange.specs.Axes.{given-at}
use Rattle.arrange.proofs.AsGivenOrder.axis.Goals as goal

pub returns : goal.returns
returns c = sym (given-at c.args.self.rank c.args.place (omega (arith, c.requires, length_run 0 c.args.self.rank)))
