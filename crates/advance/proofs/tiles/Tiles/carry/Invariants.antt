-- The invariants of `tiles::Tiles::carry`.
use Prim.Native.Nat.{◌≤◌}
use Rattle.advance.specs.Arrays.{plan_in}
use Rattle.advance.proofs.Turns.{Before}
use Rattle.advance.proofs.tiles.Tiles.carry.Given as goal

abbrev pub invariant-loop-i : goal.invariant-loop-i
invariant-loop-i l = (l.last ≤ l.self.rank) × Before l.inside l.first l.last (plan_in l.self) l.self.widths.now l.initial.at l.i l.at
