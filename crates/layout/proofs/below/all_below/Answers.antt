-- `layout::below::all_below` meets its contract. Assumes nothing.
use mathlib.Core.Path.{ap, ◌∙◌}
use native.Mathlib.Omega.{arith}
use Prim.Native.Nat.{◌^◌}
use lib.Dec.{ltb}
use Rattle.layout.proofs.Nearness.{gathered_next, below_bits}
use Rattle.layout.proofs.below.all_below.Goals as goal

pub loop-n-preserved : goal.loop-n-preserved
loop-n-preserved g c =
    let l = c.loop-n in
    let size = g.N.Number.size in
    let bits = c.args.bits in (
      omega arith,
      gathered_next (λ x. ltb (size x) (2 ^ bits)) c.args.numbers.now l.n-index l.above c.n-item.result _ c.loop-n-test.true
          (below_bits bits c.size.result _ (c.size.ensures ∙ ap size c.n-item.is)) l.invariant.1,
    )
