-- The invariants of `plan::put_walk`.
use Prim.Native.Nat.{◌-◌}
use lib.ListN.{length}
use Rattle.writing.specs.Plan.{rest_from}
use Rattle.writing.proofs.Taking.{Taking}
use Rattle.writing.proofs.Walks.{W, Walks}
use Rattle.writing.proofs.plan.put_walk.Given as goal

abbrev pub invariant-loop-more : goal.invariant-loop-more
invariant-loop-more g l =
    let k = g.S.Sink in
    Walks l.plan l.course.way l.course.tiling.widths l.number l.cells l.more l.at
    × Taking k.May k.Took l.fn.sink l.initial.out (rest_from l.plan 0) l.s l.out (rest_from l.plan l.number)

abbrev pub decreases-loop-more : goal.decreases-loop-more
decreases-loop-more g l = length (W l.plan) - l.number
