-- `states::starts::some_leave` meets its contract. Assumes nothing.
use mathlib.Core.Path.{refl, ◌∙◌}
use mathlib.Core.Bool.{Bool}
use Prim.Native.Nat.{ℕ}
use native.Mathlib.Omega.{arith}
use Rattle.std.proofs.Common.{rules}
use Rattle.std.proofs.lemmas.Iterator.{YieldsList-from_range}
use Rattle.std.proofs.lemmas.Iterator.Search.{any_from_yields_List}
use Rattle.laws.specs.Base.Ranges.{any_of_range}
use Rattle.states.specs.Arrays.{leaves_at}
use Rattle.states.proofs.starts.some_leave.Goals as goal

pub returns : goal.returns
returns c =
    let a = c.args in
    let n : ℕ = a.operands in
    let leaves : ℕ → Bool = leaves_at a.extents.now a.strides.now a.counters.now a.offsets.now in
    any_from_yields_List leaves _ _ _ c.any.ensures.ran (YieldsList-from_range 0 n n refl (omega arith)) (λ x b q k. search rules) ∙ any_of_range leaves 0 n
