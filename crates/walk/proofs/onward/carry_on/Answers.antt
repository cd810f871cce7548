-- `walk::onward::carry_on` meets its contract. Assumes nothing.
use Prim.Native.Nat.{◌<◌}
use native.Mathlib.Omega.{arith}
use Rattle.advance.proofs.Turns.{ends, shifts_on, stops_on, goes_on}
use Rattle.walk.proofs.Widths.{tiled_any, begun_any}
use Rattle.walk.proofs.onward.carry_on.Goals as goal

pub loop-i-init : goal.loop-i-init
loop-i-init c =
    let r = c.requires.roomy in
    (c.requires.last_le_rank, (_, begun_any r (tiled_any c.args.plan.now r.axes c.args.c.now c.args.o.now)))

pub place_on-place-requires : goal.place_on-place-requires
place_on-place-requires c =
    let i = c.loop-i.i in
    let m = c.loop-i.invariant in
    let h : i < c.args.plan.now.rank = omega (arith, c.loop-i-test.true, m.0) in
    record { axis_bound = (omega (arith, h, m.1.1.roomy.axes), h); within = m.1.1.roomy.within i h }

pub shift-requires : goal.shift-requires
shift-requires c = let m = c.loop-i.invariant in shifts_on _ _ _ _ _ _ _ _ m.1.1 m.0 c.loop-i-test.true c.place_on-place.ensures c.goal-goal.ensures

pub returns-then-goal : goal.returns-then-goal
returns-then-goal c =
    let m = c.loop-i.invariant in
    (_, stops_on _ _ _ _ _ _ _ _ m.1.1 m.0 c.loop-i-test.true c.place_on-place.ensures c.goal-goal.ensures c.shift.ensures c.if-goal.true)

pub loop-i-preserved : goal.loop-i-preserved
loop-i-preserved c =
    let m = c.loop-i.invariant in
    (m.0, (_, goes_on _ _ _ _ _ _ _ _ m.1.1 m.0 c.loop-i-test.true c.place_on-place.ensures c.goal-goal.ensures c.shift.ensures c.if-goal.false))

pub returns : goal.returns
returns c = (_, ends _ _ _ _ _ _ _ _ c.loop-i.invariant.1.1 c.loop-i-test.false)
