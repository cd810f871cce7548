-- `shrink::level` meets its contract: a search that halves the way between a score too low and one that is not (laws, Cut/Level).
-- Assumes nothing.
use native.Mathlib.Omega.{arith}
use mathlib.Core.List.{List}
use Prim.Native.Nat.{ℕ, ◌≤◌, ◌<◌}
use Rattle.strided.specs.Region.{region}
use Rattle.laws.specs.Cut.Level.{seek-first, seek_down, seek-up, sought}
use Rattle.region.specs.Tail.{axes}
use Rattle.shrink.proofs.level.Goals as goal

pub loop-lo-init : goal.loop-lo-init
loop-lo-init c = (seek-first _ _ _ _ _ _ _ c.requires _ c.top_score-hi.ensures, omega arith)

pub loop-lo-preserved-then-scores-memory_region : goal.loop-lo-preserved-then-scores-memory_region
loop-lo-preserved-then-scores-memory_region c =
    let l = c.loop-lo in
    let a = c.args in
    let t : List ℕ = c.clip_into.new.out in
    let big : a.scores.tail.machine.numbers.cache < region a.scores.tail.machine.numbers a.scores.tail.bytes.now a.scores.tail.operands t a.scores.tail.offset (axes a.scores.tail) = omega (arith, c.memory_region.ensures, c.if-scores-memory_region.true) in
    (seek_down a.scores.tail.machine.numbers _ _ _ _ _ _ l.t l.lo l.hi _ l.invariant.0 (omega arith) (omega arith) c.clip_into.ensures big, omega arith)

pub loop-lo-preserved : goal.loop-lo-preserved
loop-lo-preserved c =
    let l = c.loop-lo in
    let a = c.args in
    let t : List ℕ = c.clip_into.new.out in
    let small : region a.scores.tail.machine.numbers a.scores.tail.bytes.now a.scores.tail.operands t a.scores.tail.offset (axes a.scores.tail) ≤ a.scores.tail.machine.numbers.cache = omega (arith, c.memory_region.ensures, c.if-scores-memory_region.false) in
    (seek-up a.scores.tail.machine.numbers _ _ _ _ _ _ l.t l.lo l.hi _ l.invariant.0 (omega arith) (omega arith) c.clip_into.ensures small, omega arith)

pub returns : goal.returns
returns c = let l = c.loop-lo in sought _ _ _ _ _ _ _ l.t l.lo l.hi l.invariant.0 c.loop-lo-test.false
