-- `finding::original_into` meets its contract. Assumes nothing.
use mathlib.Core.Path.{◌∙◌}
use Rattle.finding.specs.Mapped.{unraveled_by}
use Rattle.finding.proofs.Answers.{same-told, tells_original}
use Rattle.finding.proofs.original_into.Goals as goal

pub returns : goal.returns
returns c m ss u t =
    let e = c.lent.ensures in
    same-told ((λ i. unraveled_by (e.0 i) (e.1 i) (e.2 i) c.args.counters.now) ∙ tells_original c.requires.arrays t.arrays c.args.counters.now) c.original_by_into.ensures
