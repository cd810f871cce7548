-- `advance::tiles::Tiles::carry` meets its contract. Assumes nothing.
use native.Mathlib.Omega.{arith}
use Prim.Native.Nat.{◌<◌}
use Rattle.advance.proofs.Turns.{ends, stands_on, shifts_on, stops_on, goes_on, begins}
use Rattle.advance.proofs.tiles.Tiles.carry.Goals as goal

pub loop-i-init : goal.loop-i-init
loop-i-init c = (c.requires.last_le_rank, begins _ _ _ _ _ _ c.requires.roomy c.requires.tiled)

pub place-place-requires : goal.place-place-requires
place-place-requires c =
    let i = c.loop-i.i in
    let m = c.loop-i.invariant in
    let h : i < c.args.self.now.rank = omega arith in
    record { axis_bound = omega (arith, h, m.1.roomy.axes); standing = stands_on m.1.roomy m.1.tiled i h }

pub shift-requires : goal.shift-requires
shift-requires c =
    let m = c.loop-i.invariant in
    record { few = m.1.roomy.few; moves = shifts_on _ _ _ _ _ _ _ _ m.1 m.0 c.loop-i-test.true c.place-place.ensures c.goal-goal.ensures }

pub returns-then-goal : goal.returns-then-goal
returns-then-goal c =
    let m = c.loop-i.invariant in stops_on _ _ _ _ _ _ _ _ m.1 m.0 c.loop-i-test.true c.place-place.ensures c.goal-goal.ensures c.shift.ensures c.if-goal.true

pub loop-i-preserved : goal.loop-i-preserved
loop-i-preserved c =
    let m = c.loop-i.invariant in
    (m.0, goes_on _ _ _ _ _ _ _ _ m.1 m.0 c.loop-i-test.true c.place-place.ensures c.goal-goal.ensures c.shift.ensures c.if-goal.false)

pub returns : goal.returns
returns c = ends _ _ _ _ _ _ _ _ c.loop-i.invariant.1 c.loop-i-test.false
