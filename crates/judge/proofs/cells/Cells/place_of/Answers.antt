-- `judge::cells::Cells::place_of` meets its contract: Horner over the axes from i on.
-- Assumes nothing.
use mathlib.Core.Path.{◌≡◌}
use Prim.Native.Nat.{◌+◌, ◌-◌}
use native.Mathlib.Omega.{arith}
use lib.ListN.{drop}
use borrow.Author.Rules.{rules}
use Rattle.laws.specs.Base.Layouts.{within-length}
use Rattle.judge.specs.Laying.{place}
use Rattle.judge.proofs.Steps.{Turned, place_turn}
use Rattle.judge.proofs.cells.Cells.place_of.Goals as goal

pub overflow_mul-at : goal.overflow_mul-at
overflow_mul-at c =
    -- what the turn makes
    let turned : Turned c.args.self.extents.now c.args.index.now (c.loop-i.i - 1) c.loop-i.at = let l = c.loop-i in
    let t = c.loop-i-test.true in
    let e : l.i - 1 + 1 ≡ l.i = omega arith in
    let q : l.at ≡ place (drop (l.i - 1 + 1) c.args.self.extents.now) (drop (l.i - 1 + 1) c.args.index.now) = rw e l.invariant.1 in
    place_turn c.args.self.extents.now c.args.index.now (l.i - 1) l.at c.requires c.args.self.small (omega arith) q in
    let t = turned in search rules

pub bounds-index-i : goal.bounds-index-i
bounds-index-i c =
    let l = within-length c.args.self.extents.now c.args.index.now c.requires in
    let t = c.loop-i-test.true in
    omega (arith, l, c.loop-i.invariant.0)

pub overflow_add-at : goal.overflow_add-at
overflow_add-at c =
    let turned : Turned c.args.self.extents.now c.args.index.now (c.loop-i.i - 1) c.loop-i.at = let l = c.loop-i in
    let t = c.loop-i-test.true in
    let e : l.i - 1 + 1 ≡ l.i = omega arith in
    let q : l.at ≡ place (drop (l.i - 1 + 1) c.args.self.extents.now) (drop (l.i - 1 + 1) c.args.index.now) = rw e l.invariant.1 in
    place_turn c.args.self.extents.now c.args.index.now (l.i - 1) l.at c.requires c.args.self.small (omega arith) q in
    let t = turned in search rules

pub loop-i-preserved : goal.loop-i-preserved
loop-i-preserved c =
    let turned : Turned c.args.self.extents.now c.args.index.now (c.loop-i.i - 1) c.loop-i.at = let l = c.loop-i in
    let t = c.loop-i-test.true in
    let e : l.i - 1 + 1 ≡ l.i = omega arith in
    let q : l.at ≡ place (drop (l.i - 1 + 1) c.args.self.extents.now) (drop (l.i - 1 + 1) c.args.index.now) = rw e l.invariant.1 in
    place_turn c.args.self.extents.now c.args.index.now (l.i - 1) l.at c.requires c.args.self.small (omega arith) q in
    let t = turned in
    (omega arith, t.next)
