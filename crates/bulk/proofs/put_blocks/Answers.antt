-- `bulk::put_blocks` meets its contract. Assumes nothing.
use Rattle.bulk.proofs.Turns.{turned_none, count_some, count_fits, may-put, turned-next, wrote_last, wrote_full, strode_past, kept_asks, kept_passed}
use Rattle.walker.proofs.Walked.{course_acts, course_leads, may_move, walked_asks, walked_tells}
use native.Mathlib.Nat.{le_antisymm}
use native.Mathlib.Omega.{arith}
use mathlib.Core.Path.{refl}
use Rattle.std.specs.Prelude.{◌^◌, ◌<◌, length}
use borrow.Author.Rules.{rules}
use Rattle.bulk.proofs.put_blocks.Goals as goal
use Rattle.bulk.proofs.put_blocks.Goals.{else-not-hop-via-then-not-hop+else-not-go_behind, else-not-hop-via-else-not-hop}

pub moves-d-requires : goal.moves-d-requires
moves-d-requires c =
    let x = c.of-course in rw x.ensures (may_move (course_acts x.result x.ensures) (course_leads x.result x.ensures) c.requires.taken)

pub loop-n-init : goal.loop-n-init
loop-n-init c =
    let x = c.of-course in
    (omega arith, rw (rw x.ensures at c.state_at-at.ensures) (turned_none (course_acts x.result x.ensures) (course_leads x.result x.ensures) c.requires.taken refl))

pub stretch_here-x-requires : goal.stretch_here-x-requires
stretch_here-x-requires c = rw c.of-course.ensures (walked_tells c.loop-n.invariant.1.walked)

pub put_rows-requires : goal.put_rows-requires
put_rows-requires c =
    let a = rw c.of-course.ensures at c.stretch_here-x.ensures in
    may-put c.loop-n.invariant.1 c.requires.has_room c.loop-n-test.true a.0 c.min-count.ensures (rw c.of-course.ensures at c.moves-d.ensures) (let g : length c.args.lengths.now < 2 ^ 63 = search rules in let f = c.requires.has_room.lengths in omega (arith, g, f))

pub hop-requires : goal.hop-requires
hop-requires c = record { strides = rw c.of-course.ensures (walked_asks c.loop-n.invariant.1.walked); left_value = c.stretch_here-x.ensures.0 }

pub go_behind-requires : goal.go_behind-requires
go_behind-requires c =
    let k = c.if-not-hop.ensures.kept refl in
    let a = c.stretch_here-x.ensures in
    let q = kept_asks k c.of-course.result.way (rw c.of-course.ensures (walked_asks c.loop-n.invariant.1.walked)) a.0 in record { strides = q.0; left_value = q.1 }

pub returns-then-not-go_behind : goal.returns-then-not-go_behind
returns-then-not-go_behind c =
    let a = rw c.of-course.ensures at c.stretch_here-x.ensures in
    wrote_last c.loop-n.invariant.1 c.requires.has_room c.loop-n-test.true (strode_past a.0 a.1 c.min-count.ensures (rw c.of-course.ensures at (kept_passed (c.if-not-hop.ensures.kept refl) c.if-not-go_behind.ensures))) (rw c.of-course.ensures at c.moves-d.ensures) c.put_lengths.ensures c.put_rows.ensures refl c.requires.taken refl c.put_state.ensures

pub loop-n-smaller : goal.loop-n-smaller
loop-n-smaller c =
    let a = rw c.of-course.ensures at c.stretch_here-x.ensures in
    let n = count_some c.loop-n.invariant.1 c.requires.has_room c.loop-n-test.true a.0 c.min-count.ensures in
    omega (arith, n, c.loop-n-test.true)

pub loop-n-preserved : goal.loop-n-preserved
loop-n-preserved c =
    let a = rw c.of-course.ensures at c.stretch_here-x.ensures in
    let n = count_fits c.loop-n.invariant.1 c.requires.has_room c.loop-n-test.true a.0 c.min-count.ensures in
    elim c.else-not-hop.branch [
      | else-not-hop-via-then-not-hop+else-not-go_behind w ↦
          rw w.at-is (n, turned-next c.loop-n.invariant.1 c.requires.has_room c.loop-n-test.true (strode_past a.0 a.1 c.min-count.ensures (rw c.of-course.ensures at (kept_passed (w.if-not-hop.ensures.kept refl) w.if-not-go_behind.ensures))) (rw c.of-course.ensures at c.moves-d.ensures) c.put_lengths.ensures c.put_rows.ensures refl)
      | else-not-hop-via-else-not-hop w ↦
          rw w.at-is (n, turned-next c.loop-n.invariant.1 c.requires.has_room c.loop-n-test.true (strode_past a.0 a.1 c.min-count.ensures (rw c.of-course.ensures at (w.if-not-hop.ensures.past refl))) (rw c.of-course.ensures at c.moves-d.ensures) c.put_lengths.ensures c.put_rows.ensures refl)
    ]

pub returns : goal.returns
returns c =
    wrote_full c.loop-n.invariant.1 c.requires.has_room (le_antisymm c.loop-n.invariant.0 c.loop-n-test.false) c.requires.taken refl c.put_state-2.ensures
