-- `model::all_grow` meets its contract. Assumes nothing.
use native.Mathlib.Omega.{arith}
use mathlib.Core.Path.{refl, ◌∙◌}
use mathlib.Core.Bool.{Bool}
use Prim.Native.Nat.{ℕ}
use lib.ListN.{length}
use Rattle.std.proofs.Common.{rules}
use Rattle.std.proofs.lemmas.Iterator.{YieldsList-from_range}
use Rattle.std.proofs.lemmas.Iterator.Search.{all_from_yields_List}
use Rattle.strided.specs.Plan.{grows}
use Rattle.laws.specs.Base.Ranges.{all_of_range}
use Rattle.model.proofs.all_grow.Goals as goal

pub returns : goal.returns
returns c =
    let a = c.args in
    let n : ℕ = length a.axes.sizes.now in
    let test : ℕ → Bool = grows a.axes.sizes.now a.axes.strides.now a.axes.rank in
    all_from_yields_List test _ _ _ c.all.ensures.ran (YieldsList-from_range 0 n n refl (omega arith)) (λ x b q k. search rules) ∙ all_of_range test 0 n
