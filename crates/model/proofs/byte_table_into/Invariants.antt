-- The invariants of `byte_table_into`.
use mathlib.Core.Path.{◌≡◌}
use Rattle.model.specs.ByteRows.{byte_rows}
use Rattle.model.proofs.byte_table_into.Given as goal

abbrev pub invariant-loop-k : goal.invariant-loop-k
invariant-loop-k l = (l.table ≡ byte_rows l.machine.numbers l.axes.sizes.now l.axes.strides.now l.axes.rank l.k)
