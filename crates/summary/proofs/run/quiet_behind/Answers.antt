-- `summary::run::quiet_behind` meets its contract: the loop keeps `Going`, and the summary is `grown`. Assumes nothing.
use Rattle.std.specs.Prelude.{◌*◌, ◌^◌, ◌<◌, ◌+ℤ◌, length}
use Rattle.std.proofs.Common.{sym, ap, ◌∙◌, arith}
use mir.Facts.{to_z-of_z}
use mir.Syntax.{w64}
use mir.Val.{to_z, of_z}
use Rattle.summary.specs.Sums.{with_cell}
use Rattle.summary.specs.Parts.{grown}
use Rattle.summary.proofs.Quiet.{quiet_next}
use Rattle.summary.proofs.Meeting.{in_fits, running_in, going_next}
use Rattle.summary.proofs.run.quiet_behind.Goals as goal

pub moved-next-requires : goal.moved-next-requires
moved-next-requires c =
    let n = length c.args.cells.now in
    let room : n * 8 < 2 ^ 63 = omega arith in
    in_fits n (to_z w64 c.loop-k.o-bits +ℤ to_z w64 (of_z w64 c.args.stride)) (omega (arith, room)) (running_in c.loop-k.invariant.runs c.loop-k-test.true)

pub cell_at-x-requires : goal.cell_at-x-requires
cell_at-x-requires c =
    rw (to_z-of_z {w = w64} (record { sfits = c.moved-next.type_inv }), c.moved-next.ensures) (running_in c.loop-k.invariant.runs c.loop-k-test.true)

pub loop-k-preserved : goal.loop-k-preserved
loop-k-preserved c =
    let l = c.loop-k in
    let at = to_z-of_z {w = w64} (record { sfits = c.moved-next.type_inv }) ∙ c.moved-next.ensures in
    let quiet = quiet_next c.args.s l.k l.sum c.cell_at-x.result (sym c.adds_only.ensures ∙ c.if-not-adds_only.false) in
    going_next l.invariant c.loop-k-test.true at (sym quiet ∙ ap (with_cell (grown c.args.s l.k l.sum)) c.cell_at-x.ensures)
