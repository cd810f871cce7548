-- `views::check_visit` meets its contract: rows 1 and 2 of the plan have let it through where it was lent, and the layout's are left. Assumes
-- nothing.
use mathlib.Core.Path.{subst}
use Rattle.std.specs.Prelude.{Option}
use Rattle.strided.specs.declared.Refusal.{Refusal}
use Rattle.layout.specs.Checked.{Checked}
use Rattle.layout.specs.Lent.{Whole}
use Rattle.views.proofs.Answers.{visit_lent}
use Rattle.views.proofs.check_visit.Goals as goal

pub returns : goal.returns
returns c =
    let a = c.args in
    subst (λ (o : Option Refusal). Checked o a.extents.now a.sizes.now a.strides.now c.check_layout.result)
    (visit_lent a.extents.now a.sizes.now a.strides.now a.purpose (subst Whole c.plan.view_is c.plan.invariant))
    c.check_layout.ensures
