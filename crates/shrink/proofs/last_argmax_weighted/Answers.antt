-- `shrink::last_argmax_weighted` meets its contract. The invariant: `best` is the pick of the axes before i, and `top` the score to reach. A
-- score of 0 does not, which is that of a block of 1 or of an axis without a cost; of equal scores the later wins. Assumes nothing.
use native.Mathlib.Omega.{arith}
use mathlib.Core.Path.{◌≡◌, refl, sym, ap, ◌∙◌}
use Rattle.std.specs.Prelude.{Option}
use Prim.Native.Nat.{ℕ, ◌-◌, ◌≤◌, ◌<◌}
use Rattle.strided.specs.Cut.{score, greatest_score}
use Rattle.laws.specs.Cut.Picks.{bar_of, pick_start, pick_wins, pick_loses}
use Rattle.shrink.proofs.last_argmax_weighted.Goals as goal
use Rattle.shrink.proofs.last_argmax_weighted.Goals.{then-s-top, else-s-top}

pub loop-i-init : goal.loop-i-init
loop-i-init c = (sym (pick_start _ _ _), refl)

pub loop-i-preserved : goal.loop-i-preserved
loop-i-preserved c =
    let a = c.args in
    let i : ℕ = c.loop-i.i in
    let s : ℕ → ℕ = score a.scores.blocks.now a.scores.costs.now in
    let old : Option ℕ = greatest_score a.scores.blocks.now a.scores.costs.now a.scores.tail.offset (i - a.scores.tail.offset) in
    let sc = c.at-s.ensures in
    let e : bar_of s old ≡ c.loop-i.top = sym (c.loop-i.invariant.1 ∙ ap (bar_of s) c.loop-i.invariant.0) in
    elim c.if-s-top.branch [
      | then-s-top w ↦ let wins : bar_of s old ≤ s i = omega (arith, e, sc, w.if-s-top.true) in
          (rw (w.best-is, pick_wins a.scores.blocks.now a.scores.costs.now a.scores.tail.offset i c.loop-i.auto.i wins), rw (w.best-is, w.top-is) sc)
      | else-s-top w ↦ let loses : s i < bar_of s old = omega (arith, e, sc, w.if-s-top.false) in
          (rw (w.best-is, pick_loses a.scores.blocks.now a.scores.costs.now a.scores.tail.offset i c.loop-i.auto.i loses) c.loop-i.invariant.0, rw (w.best-is, w.top-is) c.loop-i.invariant.1)
    ]

pub returns : goal.returns
returns c = let a = c.args in
    let l = c.loop-i in
    let e : l.i ≡ a.scores.tail.rank = omega arith in
    l.invariant.0 ∙ ap (λ (i : ℕ). greatest_score a.scores.blocks.now a.scores.costs.now a.scores.tail.offset (i - a.scores.tail.offset)) e
