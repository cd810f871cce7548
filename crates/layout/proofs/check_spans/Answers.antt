-- `layout::check_spans` meets its contract: its tests are rows 5 and 6, one after the other. Assumes nothing.
use mathlib.Core.Path.{refl}
use lib.ListN.{length}
use Rattle.laws.specs.Refusals.Rows.{past_none, past_next, past_served}
use Rattle.layout.proofs.Nearness.{small_passes}
use Rattle.layout.proofs.check_spans.Goals as goal

-- a small layout has no operand that reaches too far
pub returns-then-small_layout : goal.returns-then-small_layout
returns-then-small_layout c =
    let l = c.args.layout in
    past_served (past_next (past_next (past_none _) c.total_over.ensures c.if-total_over.false) refl
    (small_passes l.extents.now l.strides.now l.operands (length l.extents.now) l.fits.rank-few c.small_layout.ensures c.if-small_layout.true))
