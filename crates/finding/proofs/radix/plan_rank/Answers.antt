-- `finding::radix::plan_rank` meets its contract. The invariant: the axes before i are passed, and those kept are counted. Assumes nothing.
use mathlib.Core.Path.{sym, ap, subst}
use mathlib.Core.Logic.{inl, inr}
use Prim.Native.Nat.{◌+◌, ◌≤◌, ◌<◌}
use Rattle.std.proofs.Common.{rules}
use lib.ListN.{length}
use Rattle.finding.proofs.Kept.{Passed, pass_none, pass_one, pass_other, pass_stays, pass_count}
use Rattle.finding.proofs.radix.plan_rank.Goals as goal
use Rattle.finding.proofs.radix.plan_rank.Goals.{then-f-ne1, else-f-ne1, else-count-eq0-via-then-count-eq0+else-not-is_empty, else-count-eq0-via-else-count-eq0}

pub loop-f-init : goal.loop-f-init
loop-f-init c = pass_none c.args.fused.now

pub loop-f-preserved : goal.loop-f-preserved
loop-f-preserved c =
    let t = c.loop-f-test in
    let fs = c.args.fused.now in
    let i = c.loop-f.f-index in
    elim c.if-f-ne1.branch [
      | then-f-ne1 w ↦ subst (Passed fs (i + 1)) (sym w.count-is) (pass_other fs i c.loop-f.count c.loop-f.invariant t.true w.if-f-ne1.true)
      | else-f-ne1 w ↦ subst (Passed fs (i + 1)) (sym w.count-is) (pass_one fs i c.loop-f.count c.loop-f.invariant t.true w.if-f-ne1.false)
    ]

pub returns-then-not-is_empty : goal.returns-then-not-is_empty
returns-then-not-is_empty c =
    let some : 0 < length c.args.fused.now = search rules in
    sym (ap length (pass_stays c.args.fused.now c.loop-f.f-index c.loop-f.count c.loop-f.invariant c.loop-f-test.false c.if-count-eq0.true some))

pub returns : goal.returns
returns c =
    pass_count c.args.fused.now c.loop-f.f-index c.loop-f.count c.loop-f.invariant c.loop-f-test.false
    (elim c.else-count-eq0.branch [
      | else-count-eq0-via-then-count-eq0+else-not-is_empty w ↦ inr (let e : length c.args.fused.now ≤ 0 = search rules in e)
      | else-count-eq0-via-else-count-eq0 w ↦ inl w.if-count-eq0.false
    ])
