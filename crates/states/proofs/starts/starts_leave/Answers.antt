-- `states::starts::starts_leave` meets its contract. Assumes nothing.
use mathlib.Core.Path.{◌∙◌, sym, subst}
use mathlib.Core.List.{List}
use Prim.Native.Nat.{ℕ}
use Rattle.strided.specs.Begin.{plan_extents}
use Rattle.strided.specs.declared.Plan.{Plan}
use Rattle.layout.specs.Lent.{Whole}
use Rattle.states.specs.Arrays.{some_leave, Begins}
use Rattle.states.proofs.Table.{begins_in, some_leave_in}
use Rattle.states.proofs.starts.starts_leave.Goals as goal

pub starts_leave-requires : goal.starts_leave-requires
starts_leave-requires c =
    let a = c.args in
    let w = subst Whole c.plan.view_is c.plan.invariant in
    subst (λ (es : List ℕ). Begins es c.plan.inside.strides.now a.counters.now a.offsets.now c.plan.inside.operands) (sym c.axes.ensures.value)
    (subst (λ (p : Plan). Begins (plan_extents a.plan.now) p.strides a.counters.now a.offsets.now p.operands) (sym c.plan.view_is) (begins_in w c.requires))

pub returns : goal.returns
returns c =
    let a = c.args in
    let w = subst Whole c.plan.view_is c.plan.invariant in
    c.starts_leave.ensures
    ∙ (λ i. some_leave (c.axes.ensures.value i) (c.plan.view_is i).strides a.counters.now a.offsets.now (c.plan.view_is i).operands)
    ∙ some_leave_in w a.counters.now a.offsets.now
