-- `shrink::clip_into` meets its contract. The invariant: the axes before i are clipped. A score above `level` has a cost above 0, so that the
-- code may divide by it. Assumes nothing.
use native.Mathlib.Omega.{arith}
use mathlib.Core.Path.{◌≡◌, sym, ap, ◌∙◌}
use Prim.Native.Nat.{ℕ, ◌-◌, ◌≤◌, ◌<◌}
use native.Mathlib.Nat.{div-le_self}
use lib.ListN.{get_or}
use borrow.Author.Tests.{lt-ltb, le-ltb}
use Rattle.strided.specs.Cut.{score}
use Rattle.laws.specs.Cut.Picks.{pos_right}
use Rattle.laws.specs.Cut.Jump.{clipped_over, over_start, over-step}
use Rattle.shrink.proofs.clip_into.Goals as goal
use Rattle.shrink.proofs.clip_into.Goals.{then-level-at, else-level-at}

pub loop-i-init : goal.loop-i-init
loop-i-init c = sym (over_start _ _ _ _ _)

pub nonzero_div-out : goal.nonzero_div-out
nonzero_div-out c = let a = c.args in pos_right (get_or a.scores.blocks.now c.loop-i.i 0 - 1) _ c.args.level (omega (arith, c.at.ensures, c.if-level-at.true))

pub overflow_add-out : goal.overflow_add-out
overflow_add-out c =
    let a = c.args in
    omega (arith, c.at.ensures, c.if-level-at.true, a.scores.fit c.loop-i.i (omega arith), div-le_self a.level (get_or a.scores.costs.now c.loop-i.i 0))

pub loop-i-preserved : goal.loop-i-preserved
loop-i-preserved c =
    let a = c.args in
    let i : ℕ = c.loop-i.i in
    let sc : ℕ = score a.scores.blocks.now a.scores.costs.now i in
    let st = over-step a.level a.scores.costs.now a.scores.tail.offset i a.scores.blocks.now a.out.now c.loop-i.auto.i in
    elim c.if-level-at.branch [
      | then-level-at w ↦ let above : a.level < sc = omega (arith, c.at.ensures, w.if-level-at.true) in (rw (w.out-is, c.loop-i.invariant, st, lt-ltb a.level sc above))
      | else-level-at w ↦ let within : sc ≤ a.level = omega (arith, c.at.ensures, w.if-level-at.false) in (rw (w.out-is, c.loop-i.invariant, st, le-ltb a.level sc within))
    ]

pub returns : goal.returns
returns c = let a = c.args in
    let l = c.loop-i in
    let e : l.i ≡ a.scores.tail.rank = omega arith in
    l.invariant ∙ ap (λ (i : ℕ). clipped_over a.level a.scores.costs.now a.scores.tail.offset (i - a.scores.tail.offset) a.scores.blocks.now a.out.now) e
