-- `judge::judge` meets its contract: the rows one after the other, then the text.
-- Assumes nothing.
use mathlib.Core.Path.{◌≡◌, sym, ◌∙◌}
use borrow.Author.Rules.{rules}
use Rattle.std.specs.Prelude.{Some, None, Err}
use lib.ListN.{length}
use Rattle.strided.specs.declared.Refusal.TheVariants.{Rank, Total, TextTotal, Visits}
use Rattle.judge.proofs.Judging.{refuses, judges, rank-refused, total-refused, cells-refused, none_refused, buffer_refused, none_refuses}
use Rattle.judge.proofs.judge.Goals as goal

pub returns-then-rank_over : goal.returns-then-rank_over
returns-then-rank_over c =
    refuses c.args.extents.now c.args.text.now c.args.marks.now Rank (rank-refused c.args.extents.now (length c.args.marks.now) (sym c.rank_over.ensures ∙ c.if-rank_over.true))

pub returns-in_err-cells : goal.returns-in_err-cells
returns-in_err-cells c =
    let none : c.total_len.result ≡ None = search rules in
    let told : c.from_residual.result ≡ Err Total = search rules in
    rw told
    (refuses c.args.extents.now c.args.text.now c.args.marks.now Total (total-refused c.args.extents.now (length c.args.marks.now) (sym c.rank_over.ensures ∙ c.if-rank_over.false) (sym c.total_len.ensures ∙ none)))

pub returns-then-cells-gt-MAX_CELLS : goal.returns-then-cells-gt-MAX_CELLS
returns-then-cells-gt-MAX_CELLS c =
    let some : c.total_len.result ≡ Some c.in_ok-cells.cells = search rules in
    refuses c.args.extents.now c.args.text.now c.args.marks.now TextTotal (cells-refused c.args.extents.now (length c.args.marks.now) (sym c.rank_over.ensures ∙ c.if-rank_over.false) (sym c.total_len.ensures ∙ some) c.if-cells-gt-MAX_CELLS.true)

pub returns-then-rank-eq0 : goal.returns-then-rank-eq0
returns-then-rank-eq0 c =
    let some : c.total_len.result ≡ Some c.in_ok-cells.cells = search rules in
    refuses c.args.extents.now c.args.text.now c.args.marks.now Visits (none_refused c.args.extents.now (length c.args.marks.now) (sym c.rank_over.ensures ∙ c.if-rank_over.false) (sym c.total_len.ensures ∙ some) c.if-cells-gt-MAX_CELLS.false c.if-rank-eq0.true)

pub returns-then-marks-cells : goal.returns-then-marks-cells
returns-then-marks-cells c =
    let some : c.total_len.result ≡ Some c.in_ok-cells.cells = search rules in
    refuses c.args.extents.now c.args.text.now c.args.marks.now Visits (buffer_refused c.args.extents.now (length c.args.marks.now) (sym c.rank_over.ensures ∙ c.if-rank_over.false) (sym c.total_len.ensures ∙ some) c.if-cells-gt-MAX_CELLS.false c.if-rank-eq0.false c.if-marks-cells.true)

pub judge_text-requires : goal.judge_text-requires
judge_text-requires c =
    let some : c.total_len.result ≡ Some c.in_ok-cells.cells = search rules in
    none_refuses c.args.extents.now (length c.args.marks.now) (sym c.rank_over.ensures ∙ c.if-rank_over.false) (sym c.total_len.ensures ∙ some) c.if-cells-gt-MAX_CELLS.false c.if-rank-eq0.false c.if-marks-cells.false

pub returns : goal.returns
returns c =
    let some : c.total_len.result ≡ Some c.in_ok-cells.cells = search rules in
    judges c.args.extents.now c.args.text.now c.args.marks.now (none_refuses c.args.extents.now (length c.args.marks.now) (sym c.rank_over.ensures ∙ c.if-rank_over.false) (sym c.total_len.ensures ∙ some) c.if-cells-gt-MAX_CELLS.false c.if-rank-eq0.false c.if-marks-cells.false) c.judge_text.ensures
