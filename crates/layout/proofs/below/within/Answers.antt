-- `layout::below::within` meets its contract. Assumes nothing.
use mathlib.Core.Path.{sym, ◌∙◌}
use borrow.Author.Rules.{rules}
use borrow.Author.Tests.{ne_eqb}
use lib.Dec.{ltb}
use Rattle.std.proofs.lemmas.Iterator.{YieldsList-from_slice, YieldsList-from_zip}
use Rattle.std.proofs.lemmas.Iterator.Search.{all_from_yields_List}
use Rattle.layout.proofs.Ranges.{other_length, within_zip}
use Rattle.layout.proofs.below.within.Goals as goal

pub returns-then-index-extents : goal.returns-then-index-extents
returns-then-index-extents c =
    let a = c.args in
    all_from_yields_List (λ p. ltb p.0 p.1) c.all.new.self _ _ c.all.ensures.ran (YieldsList-from_zip (YieldsList-from_slice a.index.now cc) (YieldsList-from_slice a.extents.now cc)) (λ x b q k. search rules)
    ∙ within_zip a.extents.now a.index.now c.if-index-extents.true

pub returns-else-index-extents : goal.returns-else-index-extents
returns-else-index-extents c =
    let a = c.args in
    rw (ne_eqb _ _ c.if-index-extents.false) (sym (other_length a.extents.now a.index.now c.if-index-extents.false))
