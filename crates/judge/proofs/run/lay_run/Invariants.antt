-- The invariants of `run::lay_run`.
use mathlib.Core.Path.{◌≡◌}
use Prim.Native.Nat.{◌≤◌}
use lib.ListN.{length}
use Rattle.judge.specs.Laying.{laid_marks, laid_again}
use Rattle.judge.proofs.run.lay_run.Given as goal

abbrev pub invariant-loop-k : goal.invariant-loop-k
invariant-loop-k l =
    (l.k ≤ l.len) × (length l.marks ≡ length l.initial.marks) × (l.again ≡ laid_again l.from l.step l.k l.initial.marks) × (l.marks ≡ laid_marks l.from l.step l.k l.initial.marks)
