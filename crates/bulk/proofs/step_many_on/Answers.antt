-- `bulk::step_many_on` meets its contract: the steps in lent arrays leave what this one hands out. Assumes nothing.
use mathlib.Core.Path.{subst}
use Rattle.std.proofs.lemmas.Result.{err_from_is_err_and}
use Rattle.walk.proofs.Answered.{lent_walk}
use Rattle.bulk.specs.Blocks.{SteppedManyInto}
use Rattle.bulk.proofs.Ways.{many_back}
use Rattle.bulk.proofs.step_many_on.Goals as goal

pub returns-in_err-blocks : goal.returns-in_err-blocks
returns-in_err-blocks c =
    let p = err_from_is_err_and c.from_residual.result c.from_residual.ensures.1 in
    rw (p.1, p.2) (many_back _ _ _ _ _ (lent_walk c.args.walk c.flag.ensures) (subst (SteppedManyInto _ _ _) c.in_err-blocks.was c.step_many_into.ensures))

pub returns : goal.returns
returns c =
    rw c.walk_of.ensures (many_back _ _ _ _ _ (lent_walk c.args.walk c.flag.ensures) (subst (SteppedManyInto _ _ _) c.in_ok-blocks.was c.step_many_into.ensures))
