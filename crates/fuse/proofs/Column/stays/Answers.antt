-- `fuse::Column::stays` meets its contract. Assumes nothing.
use mathlib.Core.Path.{refl, ◌∙◌}
use mathlib.Core.Bool.{Bool}
use Prim.Native.Nat.{ℕ}
use native.Mathlib.Omega.{arith}
use lib.Dec.{eqb}
use borrow.Author.Tests.{tests}
use Rattle.std.proofs.Common.{rules}
use Rattle.std.proofs.lemmas.Iterator.{YieldsList-from_range}
use Rattle.std.proofs.lemmas.Iterator.Search.{all_from_yields_List}
use Rattle.laws.specs.Base.Ranges.{all_of_range}
use Rattle.strided.specs.Costs.{still}
use Rattle.fuse.specs.Sizes.{size_at}
use Rattle.fuse.proofs.Column.stays.Goals as goal

pub returns : goal.returns
unfolding still
returns c =
    let s = c.args.self in
    let n : ℕ = s.rows.operands in
    -- whether operand k does not move
    let zero : ℕ → Bool = λ k. eqb (size_at s.rows.strides.now s.rows.pitch s.axis k) 0 in
    all_from_yields_List zero _ _ _ c.all.ensures.ran (YieldsList-from_range 0 n n refl (omega arith)) (λ x b q k. search (rules, tests))
    ∙ all_of_range zero 0 n
