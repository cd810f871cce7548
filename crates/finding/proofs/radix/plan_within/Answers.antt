-- `finding::radix::plan_within` meets its contract. The invariant: the axes before i are passed, and what is left decides the whole. Assumes nothing.
use mathlib.Core.Path.{refl, sym, subst, ◌∙◌}
use mathlib.Core.Logic.{inl, inr}
use Prim.Native.Nat.{◌+◌, ◌≤◌, ◌<◌}
use lib.ListN.{length}
use Rattle.std.proofs.Common.{rules}
use native.Mathlib.Omega.{arith}
use borrow.Author.Tests.{ne_eqb}
use Rattle.finding.proofs.Kept.{Held, held_none, held_one, held_other, held_out, held-single, held_several, held_end}
use Rattle.finding.proofs.radix.plan_within.Goals as goal
use Rattle.finding.proofs.radix.plan_within.Goals.{else-j-eq0-via-then-j-eq0+else-not-is_empty, else-j-eq0-via-else-j-eq0, then-f-ne1+else-not-below, else-f-ne1, then-counters-eq1, else-counters-eq1}

pub loop-f-init : goal.loop-f-init
loop-f-init c = held_none c.args.fused.now c.args.counters.now

pub returns-then-not-below : goal.returns-then-not-below
returns-then-not-below c =
    held_out c.args.fused.now c.args.counters.now c.loop-f.f-index c.loop-f.j c.loop-f.invariant c.loop-f-test.true c.below.ensures c.if-f-ne1.true c.if-not-below.true

pub overflow_add-j : goal.overflow_add-j
overflow_add-j c = omega (arith, c.loop-f.invariant.passed.few, c.loop-f.invariant.passed.fewer)

pub loop-f-preserved : goal.loop-f-preserved
loop-f-preserved c =
    let t = c.loop-f-test in
    let fs = c.args.fused.now in
    let cs = c.args.counters.now in
    let i = c.loop-f.f-index in
    elim c.if-f-ne1.branch [
      | then-f-ne1+else-not-below w ↦ subst (Held fs cs (i + 1)) (sym w.j-is) (held_other fs cs i c.loop-f.j c.loop-f.invariant t.true w.below.ensures w.if-f-ne1.true w.if-not-below.false)
      | else-f-ne1 w ↦ subst (Held fs cs (i + 1)) (sym w.j-is) (held_one fs cs i c.loop-f.j c.loop-f.invariant t.true w.if-f-ne1.false)
    ]

pub returns-then-not-is_empty : goal.returns-then-not-is_empty
returns-then-not-is_empty c =
    let some : 0 < length c.args.fused.now = search rules in
    let fs = c.args.fused.now in
    let cs = c.args.counters.now in
    let l = c.loop-f in
    elim c.if-counters-eq1.branch [
      | then-counters-eq1 w ↦ w.result-is ∙ held-single fs cs l.f-index l.j l.invariant c.loop-f-test.false c.if-j-eq0.true some w.if-counters-eq1.true w.below-then-counters-eq1.ensures
      | else-counters-eq1 w ↦ w.result-is ∙ ne_eqb _ _ w.if-counters-eq1.false ∙ held_several fs cs l.f-index l.j l.invariant c.loop-f-test.false c.if-j-eq0.true some w.if-counters-eq1.false
    ]

pub returns : goal.returns
returns c =
    held_end c.args.fused.now c.args.counters.now c.loop-f.f-index c.loop-f.j c.loop-f.invariant c.loop-f-test.false
    (elim c.else-j-eq0.branch [
      | else-j-eq0-via-then-j-eq0+else-not-is_empty w ↦ inr (let e : length c.args.fused.now ≤ 0 = search rules in e)
      | else-j-eq0-via-else-j-eq0 w ↦ inl w.if-j-eq0.false
    ]) refl
