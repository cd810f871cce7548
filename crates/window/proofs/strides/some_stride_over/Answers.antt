-- `window::strides::some_stride_over` meets its contract. Assumes nothing.
use mathlib.Core.Path.{refl, ap, ◌∙◌}
use mathlib.Core.Bool.{Bool}
use Prim.Native.Nat.{ℕ, ◌*◌}
use native.Mathlib.Omega.{arith}
use lib.ListN.{length}
use Rattle.std.proofs.Common.{rules}
use Rattle.std.proofs.lemmas.Iterator.{YieldsList-from_range}
use Rattle.std.proofs.lemmas.Iterator.Search.{any_from_yields_List}
use Rattle.strided.specs.Base.{some_of}
use Rattle.laws.specs.Base.Ranges.{any_of_range}
use Rattle.window.specs.Window.{stride_over}
use Rattle.window.specs.Selected.{new_strides}
use Rattle.window.proofs.Selected.{places_all, some_rows}
use Rattle.window.proofs.strides.some_stride_over.Goals as goal

pub returns : goal.returns
returns c =
    let s = c.args.selection in
    let n : ℕ = s.layout.operands in
    let rank : ℕ = length s.layout.extents.now in
    let over : ℕ → Bool = stride_over (new_strides s) in
    -- whether some stride of operand k's leaves
    let test : ℕ → Bool = λ k. some_of over (k * rank) rank in
    any_from_yields_List test _ _ _ c.any.ensures.ran (YieldsList-from_range 0 n n refl (omega arith)) (λ x b q k. search rules)
    ∙ any_of_range test 0 n ∙ some_rows over rank n ∙ ap (some_of over 0) (places_all s)
