-- `bulk::put_rows` meets its contract. Assumes nothing.
use mathlib.Core.Path.{ap}
use native.Mathlib.Omega.{arith}
use Rattle.strided.specs.declared.Plan.{Plan}
use Rattle.bulk.proofs.Laying.{rows_as_long, row_part, row_put}
use Rattle.bulk.proofs.put_rows.Goals as goal

pub put_row-requires : goal.put_row-requires
put_row-requires c = row_part c.requires c.loop-j.invariant.2 c.loop-j-test.true (ap (λ (p : Plan). p.operands) c.plan.view_is)

pub loop-j-preserved : goal.loop-j-preserved
loop-j-preserved c =
    let w = row_put c.requires c.loop-j.invariant.2 c.loop-j-test.true (ap (λ (p : Plan). p.operands) c.plan.view_is) c.put_row.ensures in
    (omega (arith, c.loop-j-test.true), rows_as_long c.requires w (omega (arith, c.loop-j-test.true)), w)
