-- `model::put_bytes` meets its contract. The invariant: the first i places of row k stand behind the rows before it.
-- Assumes nothing.
use native.Mathlib.Omega.{arith}
use mathlib.Core.Path.{◌≡◌, ap₂, ◌∙◌}
use Prim.Native.Nat.{ℕ, ◌*◌}
use Rattle.laws.specs.Cut.Image.{image}
use Rattle.model.specs.ByteRows.{byte_of}
use Rattle.model.proofs.Filled.{row_first, row_turn, row_done}
use Rattle.model.proofs.put_bytes.Goals as goal

pub loop-i-init : goal.loop-i-init
loop-i-init c =
    let a = c.args in
    row_first a.machine.numbers a.operand.axes.sizes.now a.operand.axes.strides.now a.operand.axes.rank a.operand.k a.table.now c.requires

pub loop-i-preserved : goal.loop-i-preserved
loop-i-preserved c =
    -- what is stored
    let stored : let a = c.args in c.byte_image.result ≡ byte_of a.machine.numbers a.operand.axes.sizes.now a.operand.axes.strides.now a.operand.k c.loop-i.i = let a = c.args in
    c.byte_image.ensures ∙ ap₂ (λ (x y : ℕ). image a.machine.numbers (x * y)) c.stride_size.ensures c.size-size.ensures in
    let a = c.args in
    row_turn a.machine.numbers a.operand.axes.sizes.now a.operand.axes.strides.now a.operand.axes.rank a.operand.k c.loop-i.i c.loop-i.table _ (omega (arith, a.operand.there, a.operand.axes.few)) c.loop-i-test.true a.operand.axes.to c.loop-i.invariant stored

pub returns : goal.returns
returns c =
    let a = c.args in
    row_done a.machine.numbers a.operand.axes.sizes.now a.operand.axes.strides.now a.operand.axes.rank a.operand.k c.loop-i.i c.loop-i.table (omega (arith, a.operand.there, a.operand.axes.few)) a.operand.axes.to (omega arith) c.loop-i.invariant
