-- `writing::plan::write` meets its contract: what is written from the first byte on is the output.
-- Assumes nothing.
use Rattle.writing.specs.Putting.{wrote_first}
use Rattle.writing.proofs.plan.write.Goals as goal

pub returns-in-Some-clause-out_after : goal.returns-in-Some-clause-out_after
returns-in-Some-clause-out_after c = (wrote_first c.in-Some.ensures.1).1
