-- `block::least_in` meets its contract. The invariant: m is the least number of the operands before k; there is one, operand 0. Assumes nothing.
use native.Mathlib.Omega.{arith}
use mathlib.Core.Path.{◌≡◌, sym, ap, ap₂, ◌∙◌}
use Prim.Native.Nat.{min}
use Rattle.strided.specs.Base.{least}
use Rattle.laws.specs.Cut.Ranges.{least_first, least_more}
use Rattle.region.specs.Tail.{axes}
use Rattle.block.proofs.least_in.Goals as goal

pub loop-k-init : goal.loop-k-init
loop-k-init g c = c.least_at-m.ensures ∙ sym (least_first _)

pub loop-k-preserved : goal.loop-k-preserved
loop-k-preserved g c = c.min-m.ensures ∙ ap₂ min c.loop-k.invariant c.least_at.ensures ∙ sym (least_more _ c.loop-k.k c.loop-k.auto.k)

pub returns : goal.returns
returns g c =
    let a = c.args in
    let t = a.some.tail in
    let e : c.loop-k.k ≡ t.operands = omega arith in
    c.loop-k.invariant ∙ ap (least (λ j. least (g.T.Table.at a.table j) t.offset (axes t)) 0) e
