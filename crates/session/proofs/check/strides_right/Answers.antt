-- `session::check::strides_right` meets its contract. Assumes nothing.
use mathlib.Core.Path.{◌≡◌, sym, ap, ◌∙◌}
use mathlib.Core.List.{List}
use lib.IntN.{ℤ, pos}
use Rattle.strided.specs.Base.{padded}
use Rattle.strided.specs.Order.{pick}
use Prim.Native.Nat.{ℕ, ◌+◌, ◌-◌, ◌*◌}
use native.Mathlib.Omega.{arith}
use native.Mathlib.Nat.{le_antisymm}
use lib.ListN.{take, drop}
use Rattle.strided.specs.Step.{blank_z}
use Rattle.laws.specs.Fuse.Arrays.{pick_rows}
use Rattle.session.specs.Session.{same_ints}
use Rattle.session.proofs.Holding.{rest_is}
use Rattle.session.proofs.Picking.{rows_next, rows-over}
use Rattle.session.proofs.check.strides_right.Goals as goal

pub loop-k-preserved : goal.loop-k-preserved
loop-k-preserved c =
    let l = c.loop-k in
    let a = c.args in
    let t = c.loop-k-test.true in
    let f = l.invariant.0 in (
      f,
      l.invariant.1,
      l.invariant.2,
      omega (arith, t),
      rows_next a.rows.strides.now a.rows.pitch a.axes.now a.plan_strides.now l.invariant.2 l.k (omega (arith, f, t)) l.alike c.row_picked-alike.result l.invariant.4
          (c.row_picked-alike.ensures ∙ ap (λ (r : List ℤ). same_ints (padded 64 (pos 0) (pick (pos 0) r a.axes.now)) (take (l.k * 64 + 64 - l.k * 64) (drop (l.k * 64) a.plan_strides.now))) (rest_is (l.k * a.rows.pitch) a.rows.strides.now)),
    )

pub returns : goal.returns
returns c =
    let l = c.loop-k in
    let a = c.args in
    let e : l.k ≡ a.rows.operands = le_antisymm l.invariant.3 c.loop-k-test.false in
    rows-over a.rows.strides.now a.rows.pitch a.axes.now a.plan_strides.now l.invariant.2 a.rows.operands c.requires.few.0 l.alike c.all_zero-rest.result
    (l.invariant.4 ∙ ap (λ (k : ℕ). same_ints (pick_rows a.rows.strides.now a.rows.pitch a.axes.now k) (take (k * 64) a.plan_strides.now)) e)
    (c.all_zero-rest.ensures ∙ ap (λ (n : ℕ). blank_z (take (n - a.rows.operands * 64) (drop (a.rows.operands * 64) a.plan_strides.now))) (sym c.told-plan_strides) ∙ ap blank_z (rest_is (a.rows.operands * 64) a.plan_strides.now))
