-- `layout::sizes::reach_of` meets its contract. Assumes nothing.
use Rattle.std.proofs.Common.{rules}
use native.Mathlib.Omega.{arith}
use lib.IntN.{nat_abs}
use mathlib.Core.Path.{◌≡◌}
use Rattle.std.proofs.lemmas.Iterator.{empty_from_Zip}
use Rattle.layout.proofs.Caps.{summed_turn, summed_end}
use Rattle.layout.proofs.sizes.reach_of.Goals as goal

pub loop-extent-init : goal.loop-extent-init
loop-extent-init c = (omega arith, search rules, search rules)

pub add_cap-sum-requires : goal.add_cap-sum-requires
add_cap-sum-requires c = c.loop-extent.invariant.0

pub loop-extent-preserved : goal.loop-extent-preserved
loop-extent-preserved c =
    let k = c.in-Some.ensures.steps in
    let n : c.unsigned_abs.result ≡ nat_abs c.in-Some.stride.now = search rules in
    summed_turn _ _ _ c.in-Some.stride.now _ _ _ _ _ _ (rw (k.0, k.1) at c.loop-extent.invariant) n c.saturating_sub.ensures c.mul_cap-way.ensures c.add_cap-sum.ensures

pub returns : goal.returns
returns c =
    let k = empty_from_Zip _ c.next.new.self _ c.in-None.is c.next.ensures.steps (search rules) in
    summed_end _ _ _ _ k.0 c.loop-extent.invariant
