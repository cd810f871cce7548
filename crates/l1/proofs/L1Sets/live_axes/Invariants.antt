-- The invariants of `L1Sets::live_axes`.
use mathlib.Core.Path.{◌≡◌}
use mathlib.Core.Bool.{Bool}
use mathlib.Core.List.{List}
use Prim.Native.Nat.{ℕ, ◌-◌}
use lib.Dec.{ltb}
use Rattle.strided.specs.Base.{seek}
use Rattle.strided.specs.Region.{byte_at}
use Rattle.strided.specs.Fit.{reuse}
use Rattle.strided.specs.declared.Machine.{Machine}
use Rattle.l1.specs.Live.{Holds, aliases_at}
use Rattle.l1.proofs.L1Sets.live_axes.Given as goal

-- whether operand k's byte stride on axis j is below a line
abbrev pub near : Machine → List ℕ → ℕ → ℕ → Bool
near mc bytes k j = ltb (byte_at bytes k j) mc.line

abbrev pub invariant-loop-i : goal.invariant-loop-i
invariant-loop-i l = (seek (near l.cut.machine.numbers l.cut.bytes.now l.k) l.i (l.cut.axes.rank - l.i) ≡ reuse l.cut.machine.numbers l.cut.bytes.now l.cut.axes.rank l.k)
    × (Holds (aliases_at l.cut.machine.numbers l.cut.bytes.now l.k) l.i l.aliased)
