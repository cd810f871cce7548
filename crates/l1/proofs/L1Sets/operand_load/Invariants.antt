-- The invariants of `L1Sets::operand_load`.
use mathlib.Core.Path.{◌≡◌}
use Prim.Native.Nat.{min}
use Rattle.l1.specs.Live.{top, product_by}
use Rattle.l1.proofs.L1Sets.operand_load.Given as goal

abbrev pub invariant-loop-i : goal.invariant-loop-i
invariant-loop-i l = (l.m ≡ min (product_by l.live l.blocks l.i) top)
