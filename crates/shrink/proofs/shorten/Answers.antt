-- `shrink::shorten` meets its contract. The invariant: r is the region of the blocks, saturated, and they end up by the rule as those at first
-- would. The loop ends, since each turn leaves fewer cells. Assumes nothing.
use native.Mathlib.Omega.{arith}
use mathlib.Core.Path.{refl, sym, ◌∙◌}
use Rattle.shrink.proofs.Places.{there, place}
use Rattle.shrink.proofs.shorten.Goals as goal

pub loop-r-init : goal.loop-r-init
loop-r-init g c = (c.requires.fit, c.requires.told, λ s. refl)

pub returns-clause-rule : goal.returns-clause-rule
returns-clause-rule g c = λ s. sym (s.small _ (omega (arith, c.loop-r.invariant.1, c.loop-r-test.false))) ∙ c.loop-r.invariant.2 s

pub returns-in_default-clause-rule : goal.returns-in_default-clause-rule
returns-in_default-clause-rule g c = λ s. sym (s.nothing _ (sym c.last_argmax_weighted.ensures ∙ c.in_default.is)) ∙ c.loop-r.invariant.2 s

pub offset_bounds-blocks-i : goal.offset_bounds-blocks-i
offset_bounds-blocks-i g c = omega (arith, c.args.tail.to, place _ _ _ _ (there c.last_argmax_weighted.ensures c.in-Some.is))

pub bounds-blocks-i : goal.bounds-blocks-i
bounds-blocks-i g c = omega (arith, c.args.tail.to, place _ _ _ _ (there c.last_argmax_weighted.ensures c.in-Some.is))
