-- `decline::tail_separated` meets its contract: the axes are tested as they stand; the definition's order by rising stride says the same
-- (laws, Cut/Rising). Assumes nothing.
use mathlib.Core.Path.{refl, ◌∙◌}
use mathlib.Core.Bool.{Bool}
use Prim.Native.Nat.{ℕ, ◌-◌}
use Rattle.std.proofs.Common.{rules}
use Rattle.std.proofs.lemmas.Iterator.{YieldsList-from_range}
use Rattle.std.proofs.lemmas.Iterator.Search.{all_from_yields_List}
use Rattle.laws.specs.Base.Ranges.{all_of_range}
use Rattle.decline.specs.Slabs.{apart_at}
use Rattle.decline.proofs.tail_separated.Goals as goal

pub returns : goal.returns
returns c =
    let s = c.args.slabs in
    let n : ℕ = s.operand.axes.rank - s.cut in
    -- the test at one axis
    let test : ℕ → Bool = apart_at s.machine.numbers s.operand.axes s.operand.k s.cut s.width in
    all_from_yields_List test _ _ _ c.all.ensures.ran (YieldsList-from_range s.cut s.operand.axes.rank n refl refl) (λ x b q k. search rules)
    ∙ all_of_range test s.cut n
