-- The invariants of `number::read_more`.
use mathlib.Core.List.{List}
use mathlib.Core.Logic.{◌↔◌}
use Prim.Native.Nat.{ℕ, ◌^◌, ◌<◌}
use lib.ListN.{length}
use Rattle.reading.specs.Numbers.{More}
use Rattle.reading.proofs.number.read_more.Given as goal

abbrev pub invariant-loop-d : goal.invariant-loop-d
invariant-loop-d l = (l.n < 2 ^ 64) × ((v : ℕ) (x : List ℕ) → More l.n l.rest v x ↔ More l.first l.s v x)

abbrev pub decreases-loop-d : goal.decreases-loop-d
decreases-loop-d l = length l.rest
