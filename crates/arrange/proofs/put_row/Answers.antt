-- `arrange::put_row` meets its contract. The invariant: the first j strides of the row are in the table. Assumes nothing.
use mathlib.Core.Path.{ap, ◌∙◌}
use mathlib.Core.List.{List}
use Prim.Native.Nat.{ℕ, ◌+◌, ◌*◌, ◌≤◌}
use native.Mathlib.Nat.{mul-le-mul_right}
use native.Mathlib.Omega.{arith}
use lib.ListN.{get_or, set}
use lib.IntN.{ℤ, pos}
use mir.Syntax.{w64}
use mir.Val.{SFits}
use mir.Facts.{to_z-of_z}
use Rattle.std.proofs.Common.{rules}
use Rattle.arrange.proofs.Turns.{row_turn, row_start, row_done}
use Rattle.arrange.proofs.put_row.Goals as goal

pub overflow_mul-from : goal.overflow_mul-from
overflow_mul-from g c =
    let row : (c.args.k + 1) * c.args.axes.now.rows.pitch ≤ c.args.axes.now.rows.operands * c.args.axes.now.rows.pitch = mul-le-mul_right c.args.axes.now.rows.pitch (omega (arith, c.requires.operand)) in
    omega (arith, row, c.args.axes.now.rows.all)

pub loop-j-init : goal.loop-j-init
loop-j-init g c = (omega arith, c.requires.table ∙ row_start (g.O.Order.names c.args.axes.now.order) c.args.axes.now.rows.strides.now c.args.axes.now.rows.pitch c.args.k)

pub loop-j-preserved : goal.loop-j-preserved
loop-j-preserved g c =
    let a = c.args.axes.now in
    let o : List ℕ = g.O.Order.names a.order in
    let f : SFits w64 (get_or a.rows.strides.now (c.args.k * a.rows.pitch + c.axis.result) (pos 0)) = search rules in (
      omega (arith, c.loop-j-test.true, c.len-j-end.ensures),
      rw (to_z-of_z {w = w64} f)
          (ap (λ (i : ℕ). set c.loop-j.table (c.args.k * 64 + c.loop-j.j) (get_or a.rows.strides.now (c.args.k * a.rows.pitch + i) (pos 0))) c.axis.ensures
          ∙ ap (λ (r : List ℤ). set r (c.args.k * 64 + c.loop-j.j) (get_or a.rows.strides.now (c.args.k * a.rows.pitch + get_or o c.loop-j.j 0) (pos 0))) c.loop-j.invariant.1
          ∙ row_turn o a.named.few-axes a.rows.strides.now a.rows.pitch c.args.k (omega (arith, c.requires.operand, a.named.few_operands)) c.loop-j.j (omega (arith, c.loop-j-test.true, c.len-j-end.ensures))),
    )

pub returns : goal.returns
returns g c =
    let a = c.args.axes.now in
    c.loop-j.invariant.1
    ∙ row_done (g.O.Order.names a.order) a.named.few-axes a.rows.strides.now a.rows.pitch c.args.k (omega (arith, c.requires.operand, a.named.few_operands)) c.loop-j.j (omega (arith, c.loop-j-test.false, c.len-j-end.ensures))
