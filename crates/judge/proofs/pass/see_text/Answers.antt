-- `judge::pass::see_text` meets its contract: the loop keeps `Checking`: whoever goes through the lines that are left has gone through all.
-- Assumes nothing.
use mathlib.Core.Path.{refl, sym, ◌∙◌}
use Rattle.judge.proofs.Passing.{checking_turn, checking_bad}
use Rattle.judge.proofs.pass.see_text.Goals as goal

pub loop-rest-preserved : goal.loop-rest-preserved
loop-rest-preserved c = checking_turn c.loop-rest.invariant (c.see_visit.ensures.to _ _ c.in_ok-leaves.was) refl

pub returns-in_err-leaves : goal.returns-in_err-leaves
returns-in_err-leaves c =
    rw c.from_residual.ensures (checking_bad c.loop-rest.invariant (sym c.is_empty.ensures ∙ c.loop-rest-test.true) (c.see_visit.ensures.bad c.in_err-leaves.was))
