-- `states::near::rows_near` meets its contract. Assumes nothing.
use mathlib.Core.Path.{refl, sym, ap, ◌∙◌}
use mathlib.Core.Bool.{Bool}
use Prim.Native.Nat.{ℕ, ◌^◌}
use native.Mathlib.Omega.{arith}
use lib.IntN.{nat_abs}
use Rattle.std.proofs.Common.{rules}
use Rattle.std.proofs.lemmas.Iterator.{YieldsList-from_range}
use Rattle.std.proofs.lemmas.Iterator.Search.{all_from_yields_List}
use Rattle.strided.specs.Base.{every}
use Rattle.strided.specs.Begin.{plan_row}
use Rattle.strided.specs.declared.Plan.{Plan}
use Rattle.laws.specs.Base.Ranges.{all_of_range}
use Rattle.layout.specs.Near.{all_below}
use Rattle.states.proofs.Nearness.{rows_all}
use Rattle.states.proofs.near.rows_near.Goals as goal

pub returns : goal.returns
returns c =
    let p = c.args.plan.now in
    let n : ℕ = c.plan.inside.operands in
    let near : ℕ → Bool = λ k. all_below nat_abs (2 ^ 40) (plan_row p k) in
    let told = all_from_yields_List near _ _ _ c.all.ensures.ran (YieldsList-from_range 0 n n refl (omega arith)) (λ x b q k. search rules)
    ∙ all_of_range near 0 n ∙ ap (λ (q : Plan). every near 0 q.operands) c.plan.view_is in
    λ h. rows_all p (sym told ∙ h)
