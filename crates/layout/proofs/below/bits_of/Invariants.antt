-- The invariants of `below::bits_of`.
use mathlib.Core.Path.{◌≡◌}
use mathlib.Core.Bool.{◌&&◌}
use Prim.Native.Nat.{◌≤◌}
use lib.Dec.{eqb}
use lib.ListN.{length, drop}
use Rattle.std.specs.List.{list_all}
use Rattle.layout.proofs.below.bits_of.Given as goal

-- what is gathered of the first numbers, with the rest, says whether all are 0
abbrev pub invariant-loop-n : goal.invariant-loop-n
invariant-loop-n g l =
    (l.n-index ≤ length l.numbers)
    × ((eqb l.seen 0 && list_all (λ x. eqb (g.N.Number.size x) 0) (drop l.n-index l.numbers)) ≡ list_all (λ x. eqb (g.N.Number.size x) 0) l.numbers)
