-- `finding::original_index_into` meets its contract. Assumes nothing.
use Rattle.std.proofs.lemmas.Result.{err_from_is_err_and}
use Rattle.layout.proofs.Checks.{checked-through, checked_some}
use Rattle.finding.proofs.Answers.{same-told, cells-few, original_passed, original_refused}
use Rattle.finding.proofs.original_index_into.Goals as goal

pub returns-in_err-layout : goal.returns-in_err-layout
returns-in_err-layout c =
    let a = c.args in
    let p = err_from_is_err_and c.from_residual.result c.from_residual.ensures.1 in
    rw (p.1, p.2) (original_refused a.extents.now a.sizes.now a.strides.now a.purpose a.counters.now _ (checked_some a.extents.now a.sizes.now a.strides.now c.check_layout.ensures c.in_err-layout.was))

pub original_of_into-requires : goal.original_of_into-requires
original_of_into-requires c =
    let a = c.args in
    cells-few a.extents.now a.sizes.now a.strides.now a.purpose (checked-through a.extents.now a.sizes.now a.strides.now c.check_layout.ensures c.in_ok-layout.was)

pub returns : goal.returns
returns c =
    let a = c.args in
    let l = checked-through a.extents.now a.sizes.now a.strides.now c.check_layout.ensures c.in_ok-layout.was in
    same-told (original_passed a.extents.now a.sizes.now a.strides.now a.purpose l a.counters.now) c.original_of_into.ensures
