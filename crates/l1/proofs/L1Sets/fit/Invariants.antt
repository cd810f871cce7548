-- The invariants of `L1Sets::fit`.
use mathlib.Core.Path.{◌≡◌}
use Rattle.strided.specs.Fit.{fit_from, fitted}
use Rattle.l1.specs.Live.{chosen_size}
use Rattle.l1.proofs.L1Sets.fit.Given as goal

abbrev pub invariant-loop-i : goal.invariant-loop-i
invariant-loop-i l =
    (fit_from l.cut.machine.numbers l.cut.bytes.now l.cut.axes.sizes.now l.cut.axes.rank (chosen_size l.cut.axes.strides.now l.chosen) l.i l.blocks ≡ fitted l.cut.machine.numbers l.cut.bytes.now l.cut.axes.sizes.now l.cut.axes.rank (chosen_size l.cut.axes.strides.now l.chosen) l.initial.blocks)
