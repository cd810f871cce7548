-- `writing::arrays::put_lines` meets its contract: the loop keeps what is left.
-- Assumes nothing.
use mathlib.Core.Path.{refl, subst}
use Prim.Native.Nat.{◌+◌}
use lib.ListN.{take}
use Rattle.writing.proofs.Laid.{Before, lines_all, row_first, may_on, before-next, before_end}
use Rattle.writing.proofs.Taking.{taking_may, taking_next, taking_full}
use Rattle.writing.proofs.arrays.put_lines.Goals as goal
use Rattle.writing.proofs.arrays.put_lines.Goals.{then-j-count, else-j-count}

pub take-requires : goal.take-requires
take-requires g c =
    let k = g.S.Sink in
    let a = c.args in
    let e = row_first c.requires.rows_fit c.loop-j.invariant.0 c.loop-j-test.true a.x.length a.number (take a.operands c.loop-j.o) refl in
    taking_may k.May k.Took k.Full g.met.S.Sink.laws _ _ _ _ _ _ c.loop-j.invariant.1 _ _ e

pub returns-in_err-s : goal.returns-in_err-s
returns-in_err-s g c =
    let k = g.S.Sink in
    let a = c.args in
    let e = row_first c.requires.rows_fit c.loop-j.invariant.0 c.loop-j-test.true a.x.length a.number (take a.operands c.loop-j.o) refl in
    let whole = lines_all a.x.count a.x.length a.number a.operands a.d.now a.first.now in
    rw c.from_residual.ensures (subst (k.Full a.sink) whole (taking_full k.May k.Took k.Full g.met.S.Sink.laws _ _ _ _ _ _ c.loop-j.invariant.1 _ _ e c.in_err-s.ensures))

pub move_by-requires : goal.move_by-requires
move_by-requires g c = may_on c.requires.rows_fit c.loop-j.invariant.0 c.loop-j-test.true c.if-j-count.true

pub loop-j-preserved : goal.loop-j-preserved
loop-j-preserved g c =
    let k = g.S.Sink in
    let a = c.args in
    let e = row_first c.requires.rows_fit c.loop-j.invariant.0 c.loop-j-test.true a.x.length a.number (take a.operands c.loop-j.o) refl in
    let f = c.requires.rows_fit in
    let t = c.loop-j-test.true in
    let l = c.loop-j.invariant in
    let before : Before a.x.count a.operands a.d.now a.first.now (c.loop-j.j + 1) c.if-j-count.o =
    elim c.if-j-count.branch [
      | then-j-count w ↦ rw w.o-is (before-next f l.0 t w.move_by.ensures)
      | else-j-count w ↦ rw w.o-is (before_end f l.0 t w.if-j-count.false)
    ] in
    (before, taking_next k.May k.Took k.Full g.met.S.Sink.laws _ _ _ _ _ _ l.1 _ _ e c.in_ok-s.ensures)
