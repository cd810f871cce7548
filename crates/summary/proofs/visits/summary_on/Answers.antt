-- `summary::visits::summary_on` meets its contract: the loop keeps `Summing`. Assumes nothing.
use native.Mathlib.Omega.{arith}
use mathlib.Core.Path.{◌≡◌, sym, ◌∙◌, subst}
use mathlib.Core.Bool.{true, false}
use mathlib.Core.List.{List}
use lib.IntN.{ℤ, pos}
use lib.ListN.{get_or}
use mir.Facts.{to_z-of_z}
use mir.Syntax.{w64}
use mir.Val.{SFits}
use borrow.Author.Rules.{rules}
use Rattle.strided.specs.Begin.{plan_extents}
use Rattle.strided.specs.Layout.{has_zero}
use Rattle.strided.specs.declared.Plan.{Plan}
use Rattle.summary.specs.Ahead.{rows_from, Ahead, met}
use Rattle.walker.proofs.Walked.{course_acts, course_leads, may_move, walked_asks}
use Rattle.walker.proofs.Left.{walking_fewer}
use Rattle.summary.proofs.Summing.{no_cells, first_taken, summing_start, summing_while, summing_fit, summing_rows, summing_next, summing_end}
use Rattle.summary.proofs.visits.summary_on.Goals as goal

pub returns-then-no_block : goal.returns-then-no_block
returns-then-no_block c =
    -- there is no block, or there is one
    let none : true ≡ has_zero (plan_extents c.args.plan.now) = sym c.if-no_block.true ∙ c.no_block.ensures in
    c.nothing_met.ensures ∙ no_cells c.requires none

pub moves-d-requires : goal.moves-d-requires
moves-d-requires c =
    let some : false ≡ has_zero (plan_extents c.args.plan.now) = sym c.if-no_block.false ∙ c.no_block.ensures in
    let x = c.of-course in
    rw x.ensures (may_move (course_acts x.result x.ensures) (course_leads x.result x.ensures) (first_taken c.requires some))

pub loop-more-init : goal.loop-more-init
loop-more-init c =
    let some : false ≡ has_zero (plan_extents c.args.plan.now) = sym c.if-no_block.false ∙ c.no_block.ensures in
    let x = c.of-course in
    let s = rw (x.ensures, to_z-of_z {w = w64} c.ranges.start) at c.state_at-at.ensures in
    rw (to_z-of_z {w = w64} c.ranges.start) (summing_start c.requires some (course_acts x.result x.ensures) (course_leads x.result x.ensures) c.nothing_met-sum.ensures s)

pub take_stretch-x-requires : goal.take_stretch-x-requires
take_stretch-x-requires c = rw c.of-course.ensures (walked_asks (summing_while c.loop-more.invariant c.loop-more-test.true).walking.walked)

pub with_blocks-sum-requires : goal.with_blocks-sum-requires
with_blocks-sum-requires c =
    -- the numbers read from arrays
    let firstIn : List ℤ = c.take_stretch-x.new.first in
    let from_is = to_z-of_z {w = w64} (let f : SFits w64 (get_or firstIn 0 (pos 0)) = search rules in f) in
    let by-is = to_z-of_z {w = w64} (let f : SFits w64 (get_or c.moves-d.result 0 (pos 0)) = search rules in f) in
    let stride-is = to_z-of_z {w = w64} (let f : SFits w64 (get_or c.plan.inside.strides.now 0 (pos 0)) = search rules in f) in
    let runs = summing_while c.loop-more.invariant c.loop-more-test.true in
    let d = rw c.of-course.ensures at c.moves-d.ensures in
    let ahead = subst (λ (q : Plan). Ahead c.args.cells.now c.loop-more.sum
    (rows_from (get_or firstIn 0 (pos 0)) (get_or c.moves-d.result 0 (pos 0)) c.take_stretch-x.result.count (get_or q.strides 0 (pos 0)) c.take_stretch-x.result.length))
    (sym c.plan.view_is) (summing_rows runs (rw c.of-course.ensures at c.take_stretch-x.ensures) d) in
    rw (from_is, by-is, stride-is) (record { runs_fit = summing_fit runs (rw c.of-course.ensures at c.take_stretch-x.ensures) d; ahead = ahead })

pub loop-more-smaller : goal.loop-more-smaller
loop-more-smaller c =
    let runs = summing_while c.loop-more.invariant c.loop-more-test.true in
    rw c.loop-more-test.true (walking_fewer runs.walking (rw c.of-course.ensures at c.take_stretch-x.ensures) (omega arith))

pub loop-more-preserved : goal.loop-more-preserved
loop-more-preserved c =
    let runs = summing_while c.loop-more.invariant c.loop-more-test.true in
    let firstIn : List ℤ = c.take_stretch-x.new.first in
    let from_is = to_z-of_z {w = w64} (let f : SFits w64 (get_or firstIn 0 (pos 0)) = search rules in f) in
    let by-is = to_z-of_z {w = w64} (let f : SFits w64 (get_or c.moves-d.result 0 (pos 0)) = search rules in f) in
    let stride-is = to_z-of_z {w = w64} (let f : SFits w64 (get_or c.plan.inside.strides.now 0 (pos 0)) = search rules in f) in
    let made = rw (from_is, by-is, stride-is) at c.with_blocks-sum.ensures in
    summing_next runs (rw c.of-course.ensures at c.take_stretch-x.ensures) (rw c.of-course.ensures at c.moves-d.ensures)
    (subst (λ (q : Plan). c.with_blocks-sum.result ≡ met c.args.cells.now c.loop-more.sum
    (rows_from (get_or firstIn 0 (pos 0)) (get_or c.moves-d.result 0 (pos 0)) c.take_stretch-x.result.count (get_or q.strides 0 (pos 0)) c.take_stretch-x.result.length)) c.plan.view_is made)

pub returns : goal.returns
returns c =
    -- and behind it, it has ended
    let e = summing_end (summing_while c.loop-more.invariant c.loop-more-test.false) in
    rw (to_z-of_z {w = w64} c.ranges.start) at e
