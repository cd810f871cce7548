-- `layout::rows::some_far` meets its contract. Assumes nothing.
use mathlib.Core.Path.{refl, ◌∙◌}
use mathlib.Core.Bool.{Bool}
use Prim.Native.Nat.{ℕ}
use native.Mathlib.Omega.{arith}
use Rattle.std.proofs.Common.{rules}
use Rattle.std.proofs.lemmas.Iterator.{YieldsList-from_range}
use Rattle.std.proofs.lemmas.Iterator.Search.{any_from_yields_List}
use Rattle.laws.specs.Base.Ranges.{any_of_range}
use Rattle.layout.specs.Rows.{row_at, far_at}
use Rattle.layout.proofs.rows.some_far.Goals as goal

pub returns : goal.returns
returns c =
    let a = c.args in
    let n : ℕ = a.rows.operands in
    let far : ℕ → Bool = far_at a.extents.now (row_at a.extents.now a.rows.strides.now a.rows.pitch) in
    any_from_yields_List far _ _ _ c.any.ensures.ran (YieldsList-from_range 0 n n refl (omega arith)) (λ x b q k. search rules) ∙ any_of_range far 0 n
