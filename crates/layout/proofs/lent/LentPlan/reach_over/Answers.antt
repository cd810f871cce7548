-- `layout::lent::LentPlan::reach_over` meets its contract. Assumes nothing.
use mathlib.Core.Path.{◌≡◌, sym, ap, ◌∙◌}
use mathlib.Core.List.{List}
use native.Mathlib.Omega.{arith}
use Prim.Native.Nat.{ℕ, ◌*◌}
use lib.ListN.{length, take, drop}
use Rattle.strided.specs.Refusals.{row6}
use Rattle.strided.specs.Begin.{plan_extents, plan_row}
use Rattle.strided.specs.declared.Plan.{Plan}
use Rattle.strided.specs.Memory.{plan_of}
use Rattle.layout.specs.Lent.{Whole}
use Rattle.layout.proofs.lent.LentPlan.reach_over.Goals as goal

pub reach_over-requires : goal.reach_over-requires
reach_over-requires c =
    let i = c.self.inside in
    let w : Whole (plan_of i.rank i.operands i.extents.now i.blocks.now i.strides.now) = c.self.invariant in
    let l : length c.axes.result.now ≡ i.rank = c.axes.ensures.long ∙ ap (λ (p : Plan). p.rank) (sym c.self.view_is) in
    omega (arith, w.axes, l)

pub returns : goal.returns
returns c =
    let i = c.self.inside in
    let now = c.args.self.now in
    let l : length c.axes.result.now ≡ i.rank = c.axes.ensures.long ∙ ap (λ (p : Plan). p.rank) (sym c.self.view_is) in
    c.reach_over.ensures
    ∙ ap (λ (n : ℕ). (row6 c.axes.result.now i.operands (λ (k : ℕ). take n (drop (k * 64) i.strides.now))).applies) l
    ∙ ap (λ (es : List ℕ). (row6 es i.operands (λ (k : ℕ). take i.rank (drop (k * 64) i.strides.now))).applies) c.axes.ensures.value
    ∙ ap (λ (p : Plan). (row6 (plan_extents now) p.operands (plan_row p)).applies) c.self.view_is
