-- `joining::layouts::put_row` meets its contract. Assumes nothing.
use Rattle.joining.proofs.Laying.{put_next}
use native.Mathlib.Omega.{arith}
use Rattle.joining.proofs.layouts.put_row.Goals as goal

pub loop-i-preserved : goal.loop-i-preserved
loop-i-preserved c =
    let l = c.loop-i in
    let e = c.told-row in
    let p = c.requires.at_bound in
    let t = c.loop-i-test.true in
    put_next 512 0 c.args.out.now c.args.at c.args.row.now c.requires.out_value (omega (arith, e, p)) l.i l.out _ (omega (arith, e, t)) l.invariant c.from.ensures
