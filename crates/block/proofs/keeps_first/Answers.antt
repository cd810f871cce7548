-- `block::keeps_first` meets its contract. Assumes nothing.
use native.Mathlib.Omega.{arith}
use mathlib.Core.Path.{refl, ap, ◌∙◌}
use mathlib.Core.Bool.{Bool}
use Prim.Native.Nat.{ℕ}
use lib.Dec.{eqb}
use borrow.Author.Tests.{tests}
use Rattle.std.proofs.Common.{rules}
use Rattle.std.proofs.lemmas.Iterator.{YieldsList-from_range}
use Rattle.std.proofs.lemmas.Iterator.Search.{all_from_yields_List}
use Rattle.strided.specs.Base.{every}
use Rattle.strided.specs.Cut.{rank_at, least_rank, keeps_first}
use Rattle.laws.specs.Base.Ranges.{all_of_range}
use Rattle.block.proofs.keeps_first.Goals as goal

pub returns : goal.returns
unfolding keeps_first least_rank
returns c =
    let a = c.args in
    let n : ℕ = a.some.tail.operands in
    -- whether operand k's first rank is m
    let first : ℕ → ℕ → Bool = λ m k. eqb (rank_at a.ranks.now k a.some.tail.offset) m in
    all_from_yields_List (first c.least_in-m.result) _ _ _ c.all.ensures.ran (YieldsList-from_range 0 n n refl (omega arith)) (λ x b q k. search (rules, tests))
    ∙ all_of_range (first c.least_in-m.result) 0 n
    ∙ ap (λ (m : ℕ). every (first m) 0 n) c.least_in-m.ensures
