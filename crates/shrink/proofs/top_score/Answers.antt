-- `shrink::top_score` meets its contract: the score of the pick, 0 where there is none. Assumes nothing.
use native.Mathlib.Omega.{arith}
use mathlib.Core.Path.{◌≡◌, sym, ap, ◌∙◌}
use Rattle.std.specs.Prelude.{None}
use Rattle.strided.specs.Cut.{score, greatest_score}
use Rattle.laws.specs.Cut.Picks.{top_of}
use Rattle.region.specs.Tail.{axes}
use Rattle.shrink.proofs.Places.{there, place}
use Rattle.shrink.proofs.top_score.Goals as goal

pub returns-in_default : goal.returns-in_default
returns-in_default c = let a = c.args in
    let e : greatest_score a.scores.blocks.now a.scores.costs.now a.scores.tail.offset (axes a.scores.tail) ≡ None = sym c.last_argmax_weighted.ensures ∙ c.in_default.is in
    sym (ap (top_of (score a.scores.blocks.now a.scores.costs.now)) e)

pub at-requires : goal.at-requires
at-requires c = omega (arith, c.args.scores.tail.from, place _ _ _ _ (there c.last_argmax_weighted.ensures c.in-Some.is))

pub returns : goal.returns
returns c =
    let a = c.args in
    c.at.ensures
    ∙ sym (ap (top_of (score a.scores.blocks.now a.scores.costs.now)) (there c.last_argmax_weighted.ensures c.in-Some.is))
