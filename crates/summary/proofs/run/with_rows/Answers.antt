-- `summary::run::with_rows` meets its contract: the loop keeps `Rowing`. Assumes nothing.
use mir.Facts.{to_z-of_z}
use mir.Syntax.{w64}
use mir.Val.{SFits}
use Rattle.summary.proofs.Meeting.{rowing_run, rowing_fits, rowing_next, rowing_last}
use Rattle.summary.proofs.run.with_rows.Goals as goal
use Rattle.summary.proofs.run.with_rows.Goals.{then-j-rows, else-j-rows}
use Rattle.std.proofs.Common.{◌∙◌, rules}

pub with_run-t-requires : goal.with_run-t-requires
with_run-t-requires c =
    let stride : SFits w64 c.args.rows.stride = search rules in
    rw (to_z-of_z {w = w64} stride) (rowing_run c.loop-j.invariant c.loop-j-test.true, c.requires.ahead.1)

pub moved-o-requires : goal.moved-o-requires
moved-o-requires c =
    let by : SFits w64 c.args.rows.by = search rules in
    rw (to_z-of_z {w = w64} by) (rowing_fits c.loop-j.invariant c.loop-j-test.true c.if-j-rows.true)

pub loop-j-preserved : goal.loop-j-preserved
loop-j-preserved c =
    let by : SFits w64 c.args.rows.by = search rules in
    let stride : SFits w64 c.args.rows.stride = search rules in
    -- what the run makes of the summary
    let run = rw (to_z-of_z {w = w64} stride) at c.with_run-t.ensures in
    elim c.if-j-rows.branch [
      | then-j-rows w ↦ rowing_next c.loop-j.invariant c.loop-j-test.true run (w.o-is ∙ to_z-of_z {w = w64} (record { sfits = w.moved-o.type_inv }) ∙ (rw (to_z-of_z {w = w64} by) at w.moved-o.ensures))
      | else-j-rows w ↦ rowing_last c.loop-j.invariant c.loop-j-test.true run w.if-j-rows.false
    ]
