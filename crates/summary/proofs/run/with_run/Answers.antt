-- `summary::run::with_run` meets its contract: the loop keeps `Running`. Assumes nothing.
use mathlib.Core.Path.{◌∙◌}
use borrow.Author.Rules.{rules}
use mir.Facts.{to_z-of_z}
use mir.Syntax.{w64}
use mir.Val.{SFits}
use Rattle.summary.proofs.Meeting.{running_on}
use Rattle.summary.proofs.run.with_run.Goals as goal

pub loop-k-preserved : goal.loop-k-preserved
loop-k-preserved c =
    let e = c.part_behind-p.ensures in
    let f : SFits w64 c.part_behind-p.result.last = search rules in
    (running_on c.loop-k.invariant.0 c.part_behind-p.result.met e.1 (to_z-of_z {w = w64} f ∙ e.2.ends) e.2.makes, c.next_loud-loud.ensures.0, c.next_loud-loud.ensures.1)
