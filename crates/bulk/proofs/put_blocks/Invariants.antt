-- The invariants of `put_blocks`.
use Rattle.bulk.proofs.Turns.{Turned}
use Rattle.strided.specs.Memory.{walk_of}
use Prim.Native.Nat.{◌-◌, ◌≤◌}
use mathlib.Core.Bool.{false}
use Rattle.bulk.proofs.put_blocks.Given as goal

abbrev pub invariant-loop-n : goal.invariant-loop-n
invariant-loop-n l =
    (l.n ≤ l.most) × Turned l.plan (walk_of false l.initial.counters l.initial.start) l.course.way l.course.tiling.widths l.initial.lengths l.initial.offsets l.n l.at l.lengths l.offsets

abbrev pub decreases-loop-n : goal.decreases-loop-n
decreases-loop-n l = l.most - l.n
