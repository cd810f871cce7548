-- The invariants of `last_argmax_weighted`.
use mathlib.Core.Path.{◌≡◌}
use Prim.Native.Nat.{◌-◌}
use Rattle.strided.specs.Cut.{score, greatest_score}
use Rattle.laws.specs.Cut.Picks.{bar_of}
use Rattle.shrink.proofs.last_argmax_weighted.Given as goal

abbrev pub invariant-loop-i : goal.invariant-loop-i
invariant-loop-i l = (l.best ≡ greatest_score l.fn.scores.blocks.now l.fn.scores.costs.now l.fn.scores.tail.offset (l.i - l.fn.scores.tail.offset)) × (l.top ≡ bar_of (score l.fn.scores.blocks.now l.fn.scores.costs.now) l.best)
