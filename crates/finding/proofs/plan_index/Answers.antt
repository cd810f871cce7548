-- `finding::plan_index` meets its contract. Assumes nothing.
use Rattle.std.proofs.lemmas.Result.{err_from_is_err_and}
use Rattle.finding.proofs.Answers.{value_of, refusal_of}
use Rattle.finding.proofs.plan_index.Goals as goal

pub returns-in_err-plan_index_into : goal.returns-in_err-plan_index_into
returns-in_err-plan_index_into c =
    let p = err_from_is_err_and c.from_residual.result c.from_residual.ensures.1 in
    rw (p.1, p.2) (refusal_of _ c.plan_index_into.ensures c.in_err-plan_index_into.was)

pub returns : goal.returns
returns c = value_of _ c.plan_index_into.ensures c.in_ok-plan_index_into.was
