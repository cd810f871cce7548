-- `views::visit_on` meets its contract: the visit in lent arrays leaves what this one hands out. Assumes nothing.
use Rattle.std.proofs.Common.{rules, ap, ◌∙◌, subst}
use Rattle.std.specs.Prelude.{Ok}
use Rattle.std.proofs.lemmas.Result.{err_from_is_err_and}
use Rattle.strided.specs.declared.Walk.{Walk}
use Rattle.layout.specs.Lent.{Whole}
use Rattle.advance.specs.Sized.{whole_sized}
use Rattle.views.specs.Visits.{visited}
use Rattle.views.specs.Memory.{VisitLeaves}
use Rattle.walk.proofs.Answered.{lent_walk}
use Rattle.views.proofs.Answers.{back_refused, back_block, back_ended, over_visit, Over}
use Rattle.views.proofs.visit_on.Goals as goal

pub returns-in_err-some : goal.returns-in_err-some
returns-in_err-some c =
    let a = c.args in
    let p = err_from_is_err_and c.from_residual.result c.from_residual.ensures.1 in
    rw (p.1, p.2) (back_refused _ (subst (VisitLeaves _ _ _) c.in_err-some.was c.visit_into.ensures)
    ∙ ap (visited a.extents.now a.sizes.now a.strides.now a.purpose a.plan.now) (lent_walk a.walk c.flag.ensures))

pub returns-then-not-some : goal.returns-then-not-some
returns-then-not-some c =
    let a = c.args in
    over_visit a.plan.now a.walk (whole_sized (subst Whole c.plan.view_is c.plan.invariant)) (search rules) (search rules)
    a.extents.now a.sizes.now a.strides.now a.purpose
    (subst (λ (w : Walk). Over (visited a.extents.now a.sizes.now a.strides.now a.purpose a.plan.now w)) (lent_walk a.walk c.flag.ensures)
    (back_ended _ (subst (VisitLeaves _ _ _) (c.in_ok-some.was ∙ ap Ok (search rules)) c.visit_into.ensures)))

pub returns : goal.returns
returns c =
    let a = c.args in
    rw c.walk_of.ensures (back_block _ (subst (VisitLeaves _ _ _) (c.in_ok-some.was ∙ ap Ok (search rules)) c.visit_into.ensures)
    ∙ ap (visited a.extents.now a.sizes.now a.strides.now a.purpose a.plan.now) (lent_walk a.walk c.flag.ensures))
