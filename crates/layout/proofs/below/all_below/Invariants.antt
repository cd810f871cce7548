-- The invariants of `below::all_below`.
use mathlib.Core.Path.{◌≡◌}
use mathlib.Core.Bool.{◌&&◌}
use Prim.Native.Nat.{◌^◌, ◌≤◌}
use lib.Dec.{eqb}
use lib.ListN.{length, drop}
use Rattle.layout.specs.Near.{all_below}
use Rattle.layout.proofs.below.all_below.Given as goal

-- what is gathered of the first numbers, with the rest, says whether all are below
abbrev pub invariant-loop-n : goal.invariant-loop-n
invariant-loop-n g l =
    let size = g.N.Number.size in
    (l.n-index ≤ length l.numbers) × ((eqb l.above 0 && all_below size (2 ^ l.bits) (drop l.n-index l.numbers)) ≡ all_below size (2 ^ l.bits) l.numbers)
