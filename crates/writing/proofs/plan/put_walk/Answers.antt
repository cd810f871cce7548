-- `writing::plan::put_walk` meets its contract: the loop keeps `Walks`, and what is left.
-- Assumes nothing.
use native.Mathlib.Omega.{arith}
use Rattle.walker.proofs.Walked.{course_acts, course_leads, may_move}
use Rattle.writing.proofs.Taking.{taking_start, taking_may, taking_next, taking_full, taking_last_may, taking_last}
use Rattle.writing.proofs.Walks.{no_lines, first_taken, walks_start, walks_asks, walks_fit, walks_lines, walks_next, walks_number_fits, walks_cells-fit, walks_less, walks_end}
use Rattle.writing.proofs.plan.put_walk.Goals as goal

pub put_end-requires : goal.put_end-requires
put_end-requires g c =
    let k = g.S.Sink in
    let begins = taking_start k.May k.Took k.Full g.met.S.Sink.laws _ _ _ c.requires in
    taking_last_may k.May k.Took k.Full g.met.S.Sink.laws _ _ _ _ _ _ begins _ (no_lines c.args.printed.printable c.if-no_block.true c.no_block.ensures)

pub returns-then-no_block : goal.returns-then-no_block
returns-then-no_block g c =
    let k = g.S.Sink in
    let begins = taking_start k.May k.Took k.Full g.met.S.Sink.laws _ _ _ c.requires in
    taking_last k.May k.Took k.Full g.met.S.Sink.laws _ _ _ _ _ _ begins _ (no_lines c.args.printed.printable c.if-no_block.true c.no_block.ensures) _ _ c.put_end.ensures

pub moves-d-requires : goal.moves-d-requires
moves-d-requires g c =
    let x = c.of-course in
    rw x.ensures (may_move (course_acts x.result x.ensures) (course_leads x.result x.ensures) (first_taken c.args.printed.printable c.if-no_block.false c.no_block.ensures))

pub loop-more-init : goal.loop-more-init
loop-more-init g c =
    let k = g.S.Sink in
    let x = c.of-course in (
      walks_start c.args.printed.printable c.if-no_block.false c.no_block.ensures (course_acts x.result x.ensures) (course_leads x.result x.ensures) (rw x.ensures at c.state_at-at.ensures),
      taking_start k.May k.Took k.Full g.met.S.Sink.laws _ _ _ c.requires,
    )

pub take_stretch-next-requires : goal.take_stretch-next-requires
take_stretch-next-requires g c = rw c.of-course.ensures (walks_asks c.loop-more.invariant.0 c.loop-more-test.true)

pub invariant_of-stretch : goal.invariant_of-stretch
invariant_of-stretch g c = record { fit = walks_fit c.loop-more.invariant.0 c.loop-more-test.true (rw c.of-course.ensures at c.take_stretch-next.ensures) (rw c.of-course.ensures at c.moves-d.ensures) }

pub put_stretch-requires-clause-numbers : goal.put_stretch-requires-clause-numbers
put_stretch-requires-clause-numbers g c = walks_number_fits c.loop-more.invariant.0 c.loop-more-test.true (rw c.of-course.ensures at c.take_stretch-next.ensures) (rw c.of-course.ensures at c.moves-d.ensures)

pub put_stretch-requires-clause-may : goal.put_stretch-requires-clause-may
put_stretch-requires-clause-may g c =
    let k = g.S.Sink in
    let l = c.loop-more.invariant in
    taking_may k.May k.Took k.Full g.met.S.Sink.laws _ _ _ _ _ _ l.1 _ _ (walks_lines l.0 c.loop-more-test.true (rw c.of-course.ensures at c.take_stretch-next.ensures) (rw c.of-course.ensures at c.moves-d.ensures))

pub returns-in_err-s : goal.returns-in_err-s
returns-in_err-s g c =
    let k = g.S.Sink in
    let l = c.loop-more.invariant in
    rw c.from_residual.ensures
    (taking_full k.May k.Took k.Full g.met.S.Sink.laws _ _ _ _ _ _ l.1 _ _ (walks_lines l.0 c.loop-more-test.true (rw c.of-course.ensures at c.take_stretch-next.ensures) (rw c.of-course.ensures at c.moves-d.ensures)) c.in_err-s.ensures)

pub overflow_add-number : goal.overflow_add-number
overflow_add-number g c = record { fits = walks_number_fits c.loop-more.invariant.0 c.loop-more-test.true (rw c.of-course.ensures at c.take_stretch-next.ensures) (rw c.of-course.ensures at c.moves-d.ensures) }

pub overflow_mul-cells : goal.overflow_mul-cells
overflow_mul-cells g c =
    let f = walks_cells-fit c.loop-more.invariant.0 c.loop-more-test.true (rw c.of-course.ensures at c.take_stretch-next.ensures) (rw c.of-course.ensures at c.moves-d.ensures) in record { fits = omega (arith, f) }

pub overflow_add-cells : goal.overflow_add-cells
overflow_add-cells g c = record { fits = walks_cells-fit c.loop-more.invariant.0 c.loop-more-test.true (rw c.of-course.ensures at c.take_stretch-next.ensures) (rw c.of-course.ensures at c.moves-d.ensures) }

pub loop-more-smaller : goal.loop-more-smaller
loop-more-smaller g c = walks_less c.loop-more.invariant.0 c.loop-more-test.true (rw c.of-course.ensures at c.take_stretch-next.ensures) (rw c.of-course.ensures at c.moves-d.ensures) (omega arith)

pub loop-more-preserved : goal.loop-more-preserved
loop-more-preserved g c =
    let k = g.S.Sink in
    let l = c.loop-more.invariant in
    let t = c.loop-more-test.true in (
      walks_next l.0 t (rw c.of-course.ensures at c.take_stretch-next.ensures) (rw c.of-course.ensures at c.moves-d.ensures),
      taking_next k.May k.Took k.Full g.met.S.Sink.laws _ _ _ _ _ _ l.1 _ _ (walks_lines l.0 t (rw c.of-course.ensures at c.take_stretch-next.ensures) (rw c.of-course.ensures at c.moves-d.ensures)) c.in_ok-s.ensures,
    )

pub put_end-requires-2 : goal.put_end-requires-2
put_end-requires-2 g c =
    let k = g.S.Sink in
    let l = c.loop-more.invariant in
    taking_last_may k.May k.Took k.Full g.met.S.Sink.laws _ _ _ _ _ _ l.1 _ (walks_end l.0 c.loop-more-test.false)

pub returns : goal.returns
returns g c =
    let k = g.S.Sink in
    let l = c.loop-more.invariant in
    taking_last k.May k.Took k.Full g.met.S.Sink.laws _ _ _ _ _ _ l.1 _ (walks_end l.0 c.loop-more-test.false) _ _ c.put_end-2.ensures
