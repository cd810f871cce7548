-- `writing::plan::put_axes` meets its contract: the loop keeps `Taking`: the lines from axis i on are left.
-- Assumes nothing.
use native.Mathlib.Omega.{arith}
use mathlib.Core.Path.{◌≡◌, ap, ◌∙◌, subst}
use Prim.Native.Nat.{◌-◌, ◌<◌, ◌≤◌}
use lib.ListN.{get_or, take}
use Rattle.strided.specs.Text.{axis_line}
use Rattle.strided.specs.declared.Plan.{Plan}
use Rattle.layout.specs.Lent.{Whole}
use Rattle.writing.specs.Plan.{axis_at}
use Rattle.writing.proofs.Axes.{axis_lent, line_first, run_out}
use Rattle.writing.proofs.Taking.{taking_start, taking_may, taking_next, taking_full, taking_end}
use Rattle.writing.proofs.plan.put_axes.Goals as goal

pub loop-i-init : goal.loop-i-init
loop-i-init g c =
    let k = g.S.Sink in
    let e : c.args.plan.now.rank - 0 ≡ c.args.plan.now.rank = omega arith in
    rw e (taking_start k.May k.Took k.Full g.met.S.Sink.laws _ _ _ c.requires)

pub take-requires : goal.take-requires
take-requires g c =
    let k = g.S.Sink in
    let p = c.args.plan.now in
    let A : Whole p = subst Whole c.plan.view_is c.plan.invariant in
    let i = c.loop-i.i in
    let here : i < p.rank = subst (λ (q : Plan). i < q.rank) c.plan.view_is c.loop-i-test.true in
    let E = c.plan.inside.extents.now in
    let B = c.plan.inside.blocks.now in
    let ts = take c.plan.inside.operands c.column-strides.result in
    let line : axis_line i (get_or E i 0) (get_or B i 0) ts ≡ axis_at p i =
    ap (λ (q : Plan). axis_line i (get_or q.extents i 0) (get_or q.blocks i 0) (take q.operands c.column-strides.result)) c.plan.view_is ∙ axis_lent p i c.column-strides.ensures A.few in
    let e = line_first p i here E B ts line in
    taking_may k.May k.Took k.Full g.met.S.Sink.laws _ _ _ _ _ _ c.loop-i.invariant _ _ e

pub returns-in_err-s : goal.returns-in_err-s
returns-in_err-s g c =
    let k = g.S.Sink in
    let p = c.args.plan.now in
    let A : Whole p = subst Whole c.plan.view_is c.plan.invariant in
    let i = c.loop-i.i in
    let here : i < p.rank = subst (λ (q : Plan). i < q.rank) c.plan.view_is c.loop-i-test.true in
    let E = c.plan.inside.extents.now in
    let B = c.plan.inside.blocks.now in
    let ts = take c.plan.inside.operands c.column-strides.result in
    let line : axis_line i (get_or E i 0) (get_or B i 0) ts ≡ axis_at p i =
    ap (λ (q : Plan). axis_line i (get_or q.extents i 0) (get_or q.blocks i 0) (take q.operands c.column-strides.result)) c.plan.view_is ∙ axis_lent p i c.column-strides.ensures A.few in
    let e = line_first p i here E B ts line in
    rw c.from_residual.ensures (taking_full k.May k.Took k.Full g.met.S.Sink.laws _ _ _ _ _ _ c.loop-i.invariant _ _ e c.in_err-s.ensures)

pub loop-i-preserved : goal.loop-i-preserved
loop-i-preserved g c =
    let k = g.S.Sink in
    let p = c.args.plan.now in
    let A : Whole p = subst Whole c.plan.view_is c.plan.invariant in
    let i = c.loop-i.i in
    let here : i < p.rank = subst (λ (q : Plan). i < q.rank) c.plan.view_is c.loop-i-test.true in
    let E = c.plan.inside.extents.now in
    let B = c.plan.inside.blocks.now in
    let ts = take c.plan.inside.operands c.column-strides.result in
    let line : axis_line i (get_or E i 0) (get_or B i 0) ts ≡ axis_at p i =
    ap (λ (q : Plan). axis_line i (get_or q.extents i 0) (get_or q.blocks i 0) (take q.operands c.column-strides.result)) c.plan.view_is ∙ axis_lent p i c.column-strides.ensures A.few in
    let e = line_first p i here E B ts line in
    taking_next k.May k.Took k.Full g.met.S.Sink.laws _ _ _ _ _ _ c.loop-i.invariant _ _ e c.in_ok-s.ensures

pub returns : goal.returns
returns g c =
    let k = g.S.Sink in
    let behind = subst (λ (p : Plan). p.rank ≤ c.loop-i.i) c.plan.view_is c.loop-i-test.false in
    taking_end k.May k.Took k.Full g.met.S.Sink.laws _ _ _ _ _ _ c.loop-i.invariant (run_out (axis_at c.args.plan.now) c.loop-i.i _ behind)
