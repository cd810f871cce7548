-- The invariants of `onward::carry_on`.
use mathlib.Core.List.{List}
use Prim.Native.Nat.{ℕ, ◌≤◌}
use Rattle.advance.specs.Axis.{widths}
use Rattle.advance.specs.Carry.{state_of}
use Rattle.advance.proofs.Turns.{Before}
use Rattle.walk.specs.Onward.{lone}
use Rattle.walk.proofs.onward.carry_on.Given as goal

-- before a turn: as with tile starts that are kept
abbrev pub invariant-loop-i : goal.invariant-loop-i
invariant-loop-i l =
    (l.last ≤ l.plan.rank) × ((t : List ℕ) × Before l.inside l.first l.last l.plan (widths l.plan) (lone l.initial.c l.initial.o) l.i (state_of t l.c l.o))
