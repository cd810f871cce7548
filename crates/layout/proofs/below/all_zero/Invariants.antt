-- The invariants of `below::all_zero`.
use mathlib.Core.Path.{◌≡◌}
use mathlib.Core.Bool.{◌&&◌}
use Prim.Native.Nat.{◌-◌, ◌*◌}
use lib.Dec.{eqb}
use lib.ListN.{length, take, drop}
use Rattle.std.specs.List.{list_all}
use Rattle.layout.proofs.below.all_zero.Given as goal

-- what is gathered tells whether all are 0 in the last row and in the rows so far
abbrev pub invariant-loop-i : goal.invariant-loop-i
invariant-loop-i g l =
    eqb l.seen 0
    ≡ (list_all (λ x. eqb (g.N.Number.size x) 0) (drop (length l.numbers - 32) l.numbers) && list_all (λ x. eqb (g.N.Number.size x) 0) (take (l.i * 32) l.numbers))
