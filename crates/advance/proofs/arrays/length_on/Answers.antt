-- `advance::arrays::length_on` meets its contract. Assumes nothing.
use mathlib.Core.Path.{◌≡◌, ◌∙◌}
use mathlib.Core.List.{[], ◌∷◌}
use Rattle.strided.specs.Memory.{plan_of}
use Rattle.strided.specs.declared.Plan.{Plan}
use Rattle.advance.specs.Filled.{by_lt}
use Prim.Native.Nat.{ℕ, ◌-◌, ◌<◌, ◌≤◌}
use Rattle.advance.proofs.Axis.{length_cut, length-left}
use Rattle.advance.specs.Arrays.{length_on}
use Rattle.advance.specs.Blocks.{length_by}
use native.Mathlib.Omega.{arith}
use borrow.Author.Tests.{eq-eqb}
use Rattle.advance.proofs.arrays.length_on.Goals as goal

pub returns-then-rank-eq0 : goal.returns-then-rank-eq0
unfolding length_on length_by
returns-then-rank-eq0 c = simp (eq-eqb _ _ c.if-rank-eq0.true)

pub returns : goal.returns
unfolding length_on
returns c =
    let a = c.args in
    let p : Plan = plan_of a.rank 0 (a.extent ∷ []) [] [] in
    let size : ℕ = a.width in
    let left : ℕ = a.extent - a.at in
    by_lt size left
    (λ (l : size < left). let m : c.min.result ≡ size = omega (arith, c.min.ensures) in m ∙ length_cut p _ _ c.if-rank-eq0.false l)
    (λ (l : left ≤ size). let m : c.min.result ≡ left = omega (arith, c.min.ensures) in m ∙ length-left p _ _ c.if-rank-eq0.false l)
