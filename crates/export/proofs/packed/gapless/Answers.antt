-- `export::packed::gapless` meets its contract. Assumes nothing.
use mathlib.Core.Path.{ap, ◌∙◌}
use native.Mathlib.Omega.{arith}
use lib.ListN.{length}
use Rattle.export.proofs.Tests.{served_accepted, served_spans}
use Rattle.export.proofs.packed.gapless.Goals as goal

pub row-requires : goal.row-requires
row-requires c = let o = c.args.asked.operands in let t = c.requires.1 in omega (arith, o, t)

pub gapless_row-requires-clause-cells : goal.gapless_row-requires-clause-cells
gapless_row-requires-clause-cells c = let g = (served_accepted _ _ _ _ _ c.args.asked.served).cells in (c.requires.0, omega (arith, g))

pub gapless_row-requires-clause-len : goal.gapless_row-requires-clause-len
gapless_row-requires-clause-len c =
    let t = c.requires.1 in ap length c.row.ensures ∙ (served_spans _ _ _ _ _ c.args.asked.served 0 (omega (arith, t))).long

pub row-requires-2 : goal.row-requires-2
row-requires-2 c = let o = c.args.asked.operands in let t = c.requires.1 in omega (arith, o, t)

pub gapless_row-requires-2-clause-cells : goal.gapless_row-requires-2-clause-cells
gapless_row-requires-2-clause-cells c = let g = (served_accepted _ _ _ _ _ c.args.asked.served).cells in (c.requires.0, omega (arith, g))

pub gapless_row-requires-2-clause-len : goal.gapless_row-requires-2-clause-len
gapless_row-requires-2-clause-len c =
    let t = c.requires.1 in ap length c.row-2.ensures ∙ (served_spans _ _ _ _ _ c.args.asked.served 1 (omega (arith, t))).long
