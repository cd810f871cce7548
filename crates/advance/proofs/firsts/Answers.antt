-- `advance::firsts` meets its contract. Assumes nothing.
use Rattle.advance.specs.Arrays.{firsts_in}
use Rattle.advance.specs.Blocks.{firsts_of}
use Rattle.advance.proofs.firsts.Goals as goal

pub returns : goal.returns
unfolding firsts_in firsts_of
returns c = rw (← c.plan.view_is) c.firsts.ensures
