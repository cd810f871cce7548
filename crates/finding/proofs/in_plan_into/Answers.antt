-- `finding::in_plan_into` meets its contract. Assumes nothing.
use mathlib.Core.Path.{◌∙◌}
use Rattle.finding.specs.Mapped.{raveled_by}
use Rattle.finding.proofs.Answers.{same-told, tells_plan}
use Rattle.finding.proofs.in_plan_into.Goals as goal

pub returns : goal.returns
returns c m ss u t =
    let e = c.lent.ensures in
    same-told ((λ i. raveled_by (e.0 i) (e.1 i) (e.2 i) c.args.original.now) ∙ tells_plan c.requires.arrays t.arrays c.args.original.now) c.plan_by_into.ensures
