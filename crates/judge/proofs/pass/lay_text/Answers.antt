-- `judge::pass::lay_text` meets its contract: the loop keeps `Onward`: the runs before what is left are laid. A line is always there, since the first pass found it.
-- Assumes nothing.
use mathlib.Core.Path.{refl, sym, ap, ◌∙◌}
use lib.ListN.{length, length-replicate}
use Rattle.strided.specs.Layout.{total}
use borrow.Author.Rules.{rules}
use Rattle.judge.proofs.Passing.{onward_start, onward_safe, onward_turn, onward_none, onward_end}
use Rattle.judge.proofs.pass.lay_text.Goals as goal

pub loop-rest-init : goal.loop-rest-init
loop-rest-init c =
    let t = total c.args.cells.extents.now in
    (ap length c.requires.1 ∙ length-replicate t 0, onward_start c.requires.0 c.requires.1)

pub lay_visit-requires : goal.lay_visit-requires
lay_visit-requires c = (c.loop-rest.invariant.0, onward_safe c.loop-rest.invariant.1)

pub loop-rest-preserved : goal.loop-rest-preserved
loop-rest-preserved c =
    (search rules, onward_turn c.loop-rest.invariant.1 (c.lay_visit.ensures.to _ _ c.in-Some.is) refl)

pub returns-in_default : goal.returns-in_default
returns-in_default c =
    absurd (onward_none c.loop-rest.invariant.1 (sym c.is_empty.ensures ∙ c.loop-rest-test.true) (c.lay_visit.ensures.bad c.in_default.is))

pub returns : goal.returns
returns c = onward_end c.loop-rest.invariant.1 (sym c.is_empty.ensures ∙ c.loop-rest-test.false)
