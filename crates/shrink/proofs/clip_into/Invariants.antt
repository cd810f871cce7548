-- The invariants of `clip_into`.
use mathlib.Core.Path.{◌≡◌}
use Prim.Native.Nat.{◌-◌}
use Rattle.laws.specs.Cut.Jump.{clipped_over}
use Rattle.shrink.proofs.clip_into.Given as goal

abbrev pub invariant-loop-i : goal.invariant-loop-i
invariant-loop-i l = (l.out ≡ clipped_over l.level l.fn.scores.costs.now l.fn.scores.tail.offset (l.i - l.fn.scores.tail.offset) l.fn.scores.blocks.now l.initial.out)
