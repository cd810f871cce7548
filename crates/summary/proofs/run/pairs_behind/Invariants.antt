-- The invariants of `run::pairs_behind`.
use Prim.Native.Nat.{◌*◌}
use Rattle.summary.proofs.Meeting.{Going}
use Rattle.summary.proofs.run.pairs_behind.Given as goal

abbrev pub invariant-loop-k : goal.invariant-loop-k
invariant-loop-k l = Going l.cells l.stride (l.pairs * 2) l.initial.t l.last (l._k * 2) l.t l.o
