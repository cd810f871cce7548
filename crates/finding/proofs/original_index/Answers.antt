-- `finding::original_index` meets its contract. Assumes nothing.
use Rattle.std.proofs.lemmas.Result.{err_from_is_err_and}
use Rattle.finding.proofs.Answers.{value_of, refusal_of}
use Rattle.finding.proofs.original_index.Goals as goal

pub returns-in_err-original_index_into : goal.returns-in_err-original_index_into
returns-in_err-original_index_into c =
    let p = err_from_is_err_and c.from_residual.result c.from_residual.ensures.1 in
    rw (p.1, p.2) (refusal_of _ c.original_index_into.ensures c.in_err-original_index_into.was)

pub returns : goal.returns
returns c = value_of _ c.original_index_into.ensures c.in_ok-original_index_into.was
