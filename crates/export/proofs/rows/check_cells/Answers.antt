-- `export::rows::check_cells` meets its contract: what the tests of rows 17 and 18 ask is let through by planning's. Assumes nothing.
use Rattle.std.specs.Prelude.{Some}
use Rattle.std.proofs.Common.{subst, arith}
use Rattle.export.specs.Rows.{sizes_good}
use Rattle.export.specs.Width.{Found}
use Rattle.export.proofs.rows.check_cells.Goals as goal

pub outside_at-requires-else-outside_at : goal.outside_at-requires-else-outside_at
outside_at-requires-else-outside_at c =
    let sizes = c.args.asked.sizes.now in
    let found : Found sizes (Some c.in_ok-width.width) = subst (Found sizes) c.in_ok-width.ensures.ok_part c.width_of.ensures in
    let t = (sizes_good sizes found.0).two in
    (omega (arith, t), c.requires)
