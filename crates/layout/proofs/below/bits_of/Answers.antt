-- `layout::below::bits_of` meets its contract. Assumes nothing.
use mathlib.Core.Path.{ap, ◌∙◌}
use native.Mathlib.Omega.{arith}
use lib.Dec.{eqb}
use Rattle.layout.proofs.Nearness.{gathered_next, gathered_end}
use Rattle.layout.proofs.below.bits_of.Goals as goal

pub loop-n-preserved : goal.loop-n-preserved
loop-n-preserved g c =
    let l = c.loop-n in
    let size = g.N.Number.size in (
      omega arith,
      gathered_next (λ x. eqb (size x) 0) c.args.numbers.now l.n-index l.seen c.n-item.result c.bits-seen.result c.loop-n-test.true
          (c.bits-seen.ensures ∙ ap (λ x. eqb (size x) 0) c.n-item.is) l.invariant.1,
    )

pub returns : goal.returns
returns g c =
    let l = c.loop-n in
    gathered_end (λ x. eqb (g.N.Number.size x) 0) c.args.numbers.now l.n-index l.seen c.loop-n-test.false l.invariant.1
