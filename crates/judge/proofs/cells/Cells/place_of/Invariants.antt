-- The invariants of `cells::Cells::place_of`.
use mathlib.Core.Path.{◌≡◌}
use Prim.Native.Nat.{◌≤◌}
use lib.ListN.{length, drop}
use Rattle.judge.specs.Laying.{place}
use Rattle.judge.proofs.cells.Cells.place_of.Given as goal

abbrev pub invariant-loop-i : goal.invariant-loop-i
invariant-loop-i l = (l.i ≤ length l.self.extents.now) × (l.at ≡ place (drop l.i l.self.extents.now) (drop l.i l.index))
