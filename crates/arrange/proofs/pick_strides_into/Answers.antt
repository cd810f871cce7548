-- `arrange::pick_strides_into` meets its contract. The invariant: the rows of the first k operands are in the table. Assumes nothing.
use mathlib.Core.Path.{◌≡◌, ap, ◌∙◌}
use Prim.Native.Nat.{ℕ}
use native.Mathlib.Omega.{arith}
use lib.IntN.{pos}
use Rattle.strided.specs.Base.{padded}
use Rattle.laws.specs.Fuse.Arrays.{pick_rows}
use Rattle.laws.specs.Base.Filling.{fill_none}
use Rattle.arrange.proofs.pick_strides_into.Goals as goal

pub loop-k-init : goal.loop-k-init
loop-k-init g c = (omega arith, c.requires ∙ fill_none 512 (pos 0))

pub put_row-requires : goal.put_row-requires
put_row-requires g c =
    record { table = c.loop-k.invariant.1; operand = c.loop-k-test.true }

pub loop-k-preserved : goal.loop-k-preserved
loop-k-preserved g c = (omega (arith, c.loop-k-test), c.put_row.ensures)

pub returns : goal.returns
returns g c =
    let e : c.loop-k.k ≡ c.args.axes.rows.operands = omega (arith, c.loop-k-test) in
    c.loop-k.invariant.1 ∙ ap (λ (m : ℕ). padded 512 (pos 0) (pick_rows c.args.axes.rows.strides.now c.args.axes.rows.pitch (g.O.Order.names c.args.axes.order) m)) e
