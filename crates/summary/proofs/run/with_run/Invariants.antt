-- The invariants of `run::with_run`.
use Prim.Native.Nat.{◌-◌, ◌<◌, ◌≤◌}
use lib.IntN.{◌+ℤ◌}
use Rattle.summary.specs.Ahead.{run_from, met}
use Rattle.summary.proofs.Meeting.{Running}
use Rattle.summary.proofs.run.with_run.Given as goal

-- the summary and the first cell are no part of the loop: `whole` is what the run makes of them, and the first cell's summary fixes it
abbrev pub invariant-loop-k : goal.invariant-loop-k
invariant-loop-k l =
    Running l.cells l.stride l.n (met l.cells l.initial.t (run_from (l.first +ℤ l.stride) l.stride (l.n - 1))) l.k l.t l.o × (0 < l.loud) × (l.loud ≤ 1024)

abbrev pub decreases-loop-k : goal.decreases-loop-k
decreases-loop-k l = l.n - l.k
