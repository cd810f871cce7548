-- `shrink::shrink` meets its contract: halving, then taking 1 off. No block is greater after halving, so that scores still fit 64 bits.
-- Assumes nothing.
use mathlib.Core.Path.{ap, subst⁻¹, ◌∙◌}
use mathlib.Core.List.{List}
use Prim.Native.Nat.{ℕ}
use Rattle.strided.specs.Cut.{halved, lessened, shrunk}
use Rattle.laws.specs.Cut.Steps.{ScoresFit, scores_le, halved_le}
use Rattle.region.specs.Tail.{axes}
use Rattle.std.proofs.Common.{rules}
use Rattle.shrink.proofs.Turns.{by_halves}
use Rattle.shrink.proofs.shrink.Goals as goal

pub shorten-r-requires-clause-rule : goal.shorten-r-requires-clause-rule
shorten-r-requires-clause-rule c = by_halves (λ x r h. search rules) _ _ _ _ _ _ _

pub lessen-requires-clause-fit : goal.lessen-requires-clause-fit
lessen-requires-clause-fit c =
    let a = c.args in
    let bytes : List ℕ = a.tail.bytes.now in
    let n : ℕ = axes a.tail in
    let b : List ℕ = a.blocks.now in
    let half : List ℕ = halved a.tail.machine.numbers bytes a.tail.operands a.costs.now a.tail.offset n b in
    subst⁻¹ (λ (l : List ℕ). ScoresFit a.tail.rank a.costs.now l) (c.shorten-r.ensures.rule (by_halves (λ x r h. search rules) _ _ _ _ _ _ _))
    (scores_le a.tail.rank a.costs.now b half (halved_le a.tail.machine.numbers bytes a.tail.operands a.costs.now a.tail.offset n b) c.requires.fit)

pub returns : goal.returns
unfolding shrunk
returns c =
    let a = c.args in
    c.lessen.ensures ∙ ap (lessened a.tail.machine.numbers a.tail.bytes.now a.tail.operands a.costs.now a.tail.offset (axes a.tail)) (c.shorten-r.ensures.rule (by_halves (λ x r h. search rules) _ _ _ _ _ _ _))
