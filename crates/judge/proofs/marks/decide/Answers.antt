-- `judge::marks::decide` meets its contract.
-- Assumes nothing.
use mathlib.Core.Path.{sym, ◌∙◌}
use Rattle.judge.specs.Marks.{decided}
use Rattle.judge.proofs.marks.decide.Goals as goal

pub returns-then-again : goal.returns-then-again
unfolding decided
returns-then-again c = sym (rw c.if-again.true)

pub returns-then-all_marked : goal.returns-then-all_marked
unfolding decided
returns-then-all_marked c = sym (rw (c.if-again.false, sym c.all_marked.ensures ∙ c.if-all_marked.true))

pub returns : goal.returns
unfolding decided
returns c = sym (rw (c.if-again.false, sym c.all_marked.ensures ∙ c.if-all_marked.false))
