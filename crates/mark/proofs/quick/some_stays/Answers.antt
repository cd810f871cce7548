-- `mark::quick::some_stays` meets its contract. Assumes nothing.
use mathlib.Core.Path.{refl, ◌∙◌}
use native.Mathlib.Omega.{arith}
use lib.ListN.{length}
use Rattle.std.proofs.Common.{rules}
use Rattle.std.proofs.lemmas.Iterator.{YieldsList-from_range}
use Rattle.std.proofs.lemmas.Iterator.Search.{any_from_yields_List}
use Rattle.strided.specs.Mark.{stays_at}
use Rattle.laws.specs.Base.Ranges.{any_of_range}
use Rattle.mark.proofs.quick.some_stays.Goals as goal

pub returns : goal.returns
returns c =
    let o = c.args.operand in
    let n = length o.extents.now in
    let t = stays_at o.extents.now o.strides.now in
    any_from_yields_List t _ _ _ c.any.ensures.ran (YieldsList-from_range 0 n n refl (omega arith)) (λ i b q k. search rules) ∙ any_of_range t 0 n
