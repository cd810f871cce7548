-- `least_at` on the table of byte strides meets its contract. The invariant: m is the least number of the axes before i; there is one, the first.
-- Assumes nothing.
use native.Mathlib.Omega.{arith}
use mathlib.Core.Path.{◌≡◌, sym, ap, ◌∙◌}
use Prim.Native.Nat.{ℕ, ◌-◌}
use Rattle.strided.specs.Base.{least}
use Rattle.strided.specs.Region.{byte_at}
use Rattle.laws.specs.Cut.Ranges.{least-one, least_step}
use Rattle.block.proofs.RefArrayU32512Table.least_at.Goals as goal

pub loop-i-init : goal.loop-i-init
loop-i-init c = sym (least-one _ _)

pub loop-i-preserved : goal.loop-i-preserved
loop-i-preserved c =
    let a = c.args in
    let step = least_step (byte_at a.self.now a.k) a.some.tail.offset c.loop-i.i (omega arith) in
    omega (arith, step, c.min-m.ensures, c.loop-i.invariant)

pub returns : goal.returns
returns c =
    let a = c.args in
    let o = a.some.tail.offset in
    let e : c.loop-i.i ≡ a.some.tail.rank = omega arith in
    c.from.ensures ∙ c.loop-i.invariant ∙ ap (λ (i : ℕ). least (byte_at a.self.now a.k) o (i - o)) e
