-- The invariants of `layouts::put_row`.
use mathlib.Core.Path.{◌≡◌}
use lib.ListN.{take}
use mathlib.Core.List.{◌++◌}
use Rattle.strided.specs.Base.{padded}
use Rattle.joining.proofs.layouts.put_row.Given as goal

abbrev pub invariant-loop-i : goal.invariant-loop-i
invariant-loop-i l = l.out ≡ padded 512 0 (take l.at l.initial.out ++ take l.i l.row)
