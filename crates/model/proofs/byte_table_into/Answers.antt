-- `model::byte_table_into` meets its contract. The invariant: the rows of the first k operands stand. Assumes nothing.
use native.Mathlib.Omega.{arith}
use mathlib.Core.Path.{◌≡◌, ap, ◌∙◌}
use lib.ListN.{length}
use Rattle.laws.specs.Base.Filling.{fill_none}
use Rattle.model.specs.ByteRows.{byte_rows}
use Rattle.model.proofs.Filled.{rows_none}
use Rattle.model.proofs.byte_table_into.Goals as goal

pub loop-k-init : goal.loop-k-init
loop-k-init c =
    let a = c.args in
    rows_none a.machine.numbers a.axes.sizes.now a.axes.strides.now a.axes.rank a.table.now (c.requires ∙ fill_none 512 0)

pub loop-k-preserved : goal.loop-k-preserved
loop-k-preserved c = c.put_bytes.ensures

pub returns : goal.returns
returns c =
    let a = c.args in
    let e : c.loop-k.k ≡ length a.axes.sizes.now = omega arith in
    c.loop-k.invariant ∙ ap (byte_rows a.machine.numbers a.axes.sizes.now a.axes.strides.now a.axes.rank) e
