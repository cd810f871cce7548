-- `layout::sizes::total_len` meets its contract. Assumes nothing.
use mathlib.Core.Path.{◌∙◌, ap}
use lib.Seq.{take_all}
use Rattle.strided.specs.Layout.{total}
use Rattle.layout.specs.Held.{held}
use Rattle.layout.proofs.Totals.{total_none, total_turn}
use Rattle.layout.proofs.sizes.total_len.Goals as goal

pub loop-e-init : goal.loop-e-init
loop-e-init c = total_none c.args.extents.now

pub loop-e-preserved : goal.loop-e-preserved
loop-e-preserved c =
    let l = c.loop-e in
    total_turn _ l.e-index _ _ c.loop-e-test.true l.invariant c.times-t.ensures

pub returns : goal.returns
returns c = c.loop-e.invariant ∙ ap (λ l. held (total l)) (take_all _ _ c.loop-e-test.false)
