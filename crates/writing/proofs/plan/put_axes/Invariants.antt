-- The invariants of `plan::put_axes`.
use Prim.Native.Nat.{◌-◌}
use Rattle.strided.specs.Base.{over, run}
use Rattle.writing.specs.Plan.{axis_at}
use Rattle.writing.proofs.Taking.{Taking}
use Rattle.writing.proofs.plan.put_axes.Given as goal

abbrev pub invariant-loop-i : goal.invariant-loop-i
invariant-loop-i g l =
    let k = g.S.Sink in
    Taking k.May k.Took l.fn.sink l.initial.out (over (run 0 l.plan.rank) (axis_at l.plan)) l.s l.out (over (run l.i (l.plan.rank - l.i)) (axis_at l.plan))
