-- `distinct::few::extend` meets its contract. The invariant: the places before j hold copies. Assumes nothing.
use native.Mathlib.Omega.{arith}
use Rattle.distinct.proofs.Doubling.{spread_true, spread_false}
use Rattle.distinct.proofs.Extending.{looked_front, extend_starts, next_low, extend_folds, extend_more, extend_ends}
use Rattle.distinct.proofs.few.extend.Goals as goal

pub loop-j-init : goal.loop-j-init
loop-j-init c =
    let h = c.requires in extend_starts _ _ _ _ h.0 h.1 h.2 (omega arith)

pub overflow_add-x : goal.overflow_add-x
overflow_add-x c =
    let h = c.requires in
    record { fits = omega (arith, next_low _ _ _ _ h.0 h.1 h.2 (omega arith) _ _ c.loop-j.invariant c.loop-j-test.true h.3) }

pub returns-then-holds : goal.returns-then-holds
returns-then-holds c =
    let h = c.requires in
    let i = c.loop-j.invariant in
    let w = (looked_front c.loop-j.list c.args.n _ _ (omega (arith, i.begun, i.within, i.long, h.2)) c.holds.ensures).found c.if-holds.true in
    spread_false _ (extend_folds _ _ _ _ h.0 h.1 h.2 (omega arith) _ _ c.loop-j.invariant w.0 c.loop-j-test.true w.1 w.2)

pub loop-j-preserved : goal.loop-j-preserved
loop-j-preserved c =
    let h = c.requires in
    let i = c.loop-j.invariant in
    let look = looked_front c.loop-j.list c.args.n _ _ (omega (arith, i.begun, i.within, i.long, h.2)) c.holds.ensures in
    extend_more _ _ _ _ h.0 h.1 h.2 (omega arith) _ _ c.loop-j.invariant c.loop-j-test.true (look.missing c.if-holds.false)

pub returns : goal.returns
returns c =
    let h = c.requires in spread_true (extend_ends _ _ _ _ h.0 h.1 h.2 (omega arith) _ _ c.loop-j.invariant c.loop-j-test.false)
