-- `window::rows::some_axis_wrong` meets its contract. Assumes nothing.
use mathlib.Core.Path.{refl, ◌∙◌}
use mathlib.Core.Bool.{Bool}
use Prim.Native.Nat.{ℕ}
use native.Mathlib.Omega.{arith}
use lib.ListN.{length}
use Rattle.std.proofs.Common.{rules}
use Rattle.std.proofs.lemmas.Iterator.{YieldsList-from_range}
use Rattle.std.proofs.lemmas.Iterator.Search.{any_from_yields_List}
use Rattle.laws.specs.Base.Ranges.{any_of_range}
use Rattle.window.specs.Window.{axis_wrong_at}
use Rattle.window.proofs.rows.some_axis_wrong.Goals as goal

pub returns : goal.returns
returns c =
    let s = c.args.selection in
    let n : ℕ = length s.layout.extents.now in
    -- whether the window is wrong on axis i
    let test : ℕ → Bool = axis_wrong_at s.layout.extents.now s.picks.firsts.now s.picks.counts.now s.picks.steps.now in
    any_from_yields_List test _ _ _ c.any.ensures.ran (YieldsList-from_range 0 n n refl (omega arith)) (λ x b q k. search rules)
    ∙ any_of_range test 0 n
