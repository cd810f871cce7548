-- `reading::head::read_head` meets its contract: what is behind `L,P` is read as P asks, and what is behind `L,F` as F asks.
-- Assumes nothing.
use borrow.Author.Rules.{rules}
use Rattle.reading.proofs.Heads.{head_told}
use Rattle.reading.proofs.head.read_head.Goals as goal

pub returns-in-Some : goal.returns-in-Some
returns-in-Some c = head_told (c.behind_all.ensures.to _ c.in-Some.is) (c.read_told.ensures 80 (λ s r h. search rules))

pub returns : goal.returns
returns c = head_told (c.behind_all-2.ensures.to _ c.in_ok-behind_all.was) (c.read_told-2.ensures 70 (λ s r h. search rules))
