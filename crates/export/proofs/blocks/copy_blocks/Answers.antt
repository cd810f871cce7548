-- `export::blocks::copy_blocks` meets its contract: the loop keeps `Copies`. Assumes nothing.
use native.Mathlib.Omega.{arith}
use mathlib.Core.Path.{refl}
use Rattle.walker.proofs.Walked.{course_acts, course_leads, may_move, walked_asks, walked_fit}
use Rattle.walker.proofs.Left.{walking_fewer}
use Rattle.export.proofs.Copies.{copies_while, copies_none, first_taken, copies_start, stretching, copies_next, copies_end}
use Rattle.export.proofs.blocks.copy_blocks.Goals as goal

pub returns-then-walk : goal.returns-then-walk
returns-then-walk c = copies_none c.requires.copyable c.args.walk c.requires.walk_value c.if-walk.true _ _

pub moves-d-requires : goal.moves-d-requires
moves-d-requires c =
    let x = c.of-course in
    rw x.ensures (may_move (course_acts x.result x.ensures) (course_leads x.result x.ensures) (first_taken c.requires.copyable c.args.walk c.requires.walk_value c.if-walk.false))

pub loop-more-init : goal.loop-more-init
loop-more-init c =
    let x = c.of-course in
    rw (rw x.ensures at c.state_at-at.ensures)
    (copies_start c.requires.copyable c.args.walk c.requires.walk_value c.if-walk.false (course_acts x.result x.ensures) (course_leads x.result x.ensures) refl _ _)

pub take_stretch-next-requires : goal.take_stretch-next-requires
take_stretch-next-requires c = rw c.of-course.ensures (walked_asks (copies_while c.loop-more.invariant c.loop-more-test.true).walking.walked)

pub invariant_of-stretch : goal.invariant_of-stretch
invariant_of-stretch c =
    let runs = copies_while c.loop-more.invariant c.loop-more-test.true in
    record { fit = walked_fit runs.walking.walked (rw c.of-course.ensures at c.take_stretch-next.ensures) (rw c.of-course.ensures at c.moves-d.ensures) }

pub copy_stretch-requires : goal.copy_stretch-requires
copy_stretch-requires c =
    let runs = copies_while c.loop-more.invariant c.loop-more-test.true in
    stretching c.requires.copyable runs (omega arith) (omega arith) (rw c.of-course.ensures at c.take_stretch-next.ensures) (rw c.of-course.ensures at c.moves-d.ensures)

pub loop-more-smaller : goal.loop-more-smaller
loop-more-smaller c =
    let runs = copies_while c.loop-more.invariant c.loop-more-test.true in
    rw c.loop-more-test.true (walking_fewer runs.walking (rw c.of-course.ensures at c.take_stretch-next.ensures) (omega arith))

pub loop-more-preserved : goal.loop-more-preserved
loop-more-preserved c =
    let runs = copies_while c.loop-more.invariant c.loop-more-test.true in
    copies_next c.requires.copyable runs (omega arith) (omega arith) (rw c.of-course.ensures at c.take_stretch-next.ensures) (rw c.of-course.ensures at c.moves-d.ensures) c.copy_stretch.ensures

pub returns : goal.returns
returns c = copies_end c.requires.copyable (copies_while c.loop-more.invariant c.loop-more-test.false)
