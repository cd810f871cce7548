-- `views::memory::found_into` meets its contract: index finding judges row 11 before anything is written. Assumes nothing.
use Rattle.std.proofs.Common.{refl, ap, take}
use Rattle.std.proofs.lemmas.Result.{err_from_is_err_and}
use Rattle.strided.specs.declared.Plan.{Plan}
use Rattle.finding.specs.Mapped.{found_original}
use Rattle.views.proofs.Answers.{told_as, countable, visit_refused_lem, visit_block}
use Rattle.views.proofs.memory.found_into.Goals as goal

pub number_of-requires : goal.number_of-requires
number_of-requires c = countable _ _ c.requires.state refl

pub returns-in_err-original_of_into : goal.returns-in_err-original_of_into
returns-in_err-original_of_into c =
    let a = c.args in
    let l = a.layout in
    let tell = found_original l.extents.now l.operands l.strides.now a.purpose in
    let p = err_from_is_err_and c.from_residual.result c.from_residual.ensures.1 in
    rw (p.1, p.2) (visit_refused_lem tell _ _ c.requires.state refl
    (told_as (ap (λ (q : Plan). tell (take q.rank a.counters.now)) c.plan.view_is) c.in_err-original_of_into.was c.original_of_into.ensures) _ _)

pub returns : goal.returns
returns c =
    let a = c.args in
    let l = a.layout in
    let tell = found_original l.extents.now l.operands l.strides.now a.purpose in
    visit_block tell _ _ c.requires.state refl
    (told_as (ap (λ (q : Plan). tell (take q.rank a.counters.now)) c.plan.view_is) c.in_ok-original_of_into.was c.original_of_into.ensures)
    c.number_of.ensures c.block_into.ensures
