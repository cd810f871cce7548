-- `shrink::lessen` meets its contract. The clipped blocks are still too large, so the single steps pass them (laws, Cut/Jump), and go on
-- from there. Assumes nothing.
use native.Mathlib.Omega.{arith}
use mathlib.Core.Path.{◌≡◌, sym, ap, subst⁻¹, ◌∙◌}
use mathlib.Core.List.{List}
use Prim.Native.Nat.{ℕ, ◌≤◌}
use Rattle.strided.specs.Region.{region}
use Rattle.strided.specs.declared.Machine.{Machine}
use Rattle.strided.specs.Cut.{lessened}
use Rattle.laws.specs.Cut.Steps.{ScoresFit, lessened_fits}
use Rattle.laws.specs.Cut.Jump.{clipped, clipped_over, over_itself, jump, clipped_scores}
use Rattle.laws.specs.Cut.Level.{Least}
use Rattle.region.specs.Tail.{axes}
use Rattle.std.proofs.Common.{rules}
use Rattle.shrink.proofs.Turns.{by_ones}
use Rattle.shrink.proofs.lessen.Goals as goal

-- the blocks b clipped at the score s are t, which the single steps start from
module _ (mc : Machine) (bytes : List ℕ) (operands : ℕ) (costs : List ℕ) (o n rank : ℕ) (b : List ℕ) (s : ℕ) {t : List ℕ} (made : t ≡ clipped_over s costs o n b b) where
  is : t ≡ clipped s costs o n b
  is = made ∙ over_itself s costs o n b

  still-fit : ScoresFit rank costs b → ScoresFit rank costs t
  still-fit h = subst⁻¹ (λ (l : List ℕ). ScoresFit rank costs l) is (clipped_scores s costs o n rank b h)

  same_end : Least mc bytes operands costs o n b s → lessened mc bytes operands costs o n t ≡ lessened mc bytes operands costs o n b
  same_end h = ap (lessened mc bytes operands costs o n) is ∙ sym (jump mc bytes operands costs o n s b h.above)

pub returns-then-r-tail : goal.returns-then-r-tail
returns-then-r-tail c =
    let a = c.args in
    let small : region a.tail.machine.numbers a.tail.bytes.now a.tail.operands a.blocks.now a.tail.offset (axes a.tail) ≤ a.tail.machine.numbers.cache = omega arith in
    sym (lessened_fits a.tail.machine.numbers a.tail.bytes.now a.tail.operands a.costs.now a.tail.offset (axes a.tail) a.blocks.now small)

pub shorten-requires-clause-fit : goal.shorten-requires-clause-fit
shorten-requires-clause-fit c =
    let a = c.args in still-fit a.tail.machine.numbers a.tail.bytes.now a.tail.operands a.costs.now a.tail.offset (axes a.tail) a.tail.rank a.blocks.now c.level.result c.clip_into.ensures c.requires.fit

pub shorten-requires-clause-rule : goal.shorten-requires-clause-rule
shorten-requires-clause-rule c = by_ones (λ x r h. search rules) _ _ _ _ _ _ _

pub returns : goal.returns
returns c =
    let a = c.args in
    c.shorten.ensures.rule (by_ones (λ x r h. search rules) _ _ _ _ _ _ _)
    ∙ same_end a.tail.machine.numbers a.tail.bytes.now a.tail.operands a.costs.now a.tail.offset (axes a.tail) a.tail.rank a.blocks.now c.level.result c.clip_into.ensures c.level.ensures
