-- `bulk::step_many_into` meets its contract: the answer of one step decides, and the blocks are the next ones. Assumes nothing.
use mathlib.Core.Path.{ap, ◌∙◌}
use Rattle.std.specs.Prelude.{Ok}
use Rattle.std.proofs.lemmas.Result.{err_from_is_err_and}
use Rattle.walk.proofs.Stepping.{answers_at}
use Rattle.bulk.proofs.Ways.{refused-many, ended_many, wrote_many}
use Rattle.bulk.proofs.step_many_into.Goals as goal

pub returns-in_err-answer_of : goal.returns-in_err-answer_of
returns-in_err-answer_of c =
    let p = err_from_is_err_and c.from_residual.result c.from_residual.ensures.1 in
    rw (p.1, p.2) (refused-many _ _ _ _ (answers_at _ _ c.answer_of.ensures c.in_err-answer_of.was))

pub returns-then-branch : goal.returns-then-branch
returns-then-branch c =
    let k = answers_at _ _ c.answer_of.ensures (c.in_ok-answer_of.was ∙ ap Ok c.if-branch.true) in
    wrote_many _ _ _ _ _ c.room_for-room.ensures k.1 c.put_blocks-blocks.ensures

pub returns : goal.returns
returns c = ended_many _ _ _ _ (answers_at _ _ c.answer_of.ensures (c.in_ok-answer_of.was ∙ ap Ok c.if-branch.false))
