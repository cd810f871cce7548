-- `export::rows::repeats` meets its contract. Assumes nothing.
use Rattle.std.specs.Prelude.{not}
use Rattle.strided.specs.declared.Mark.{Mark}
use Rattle.export.specs.Export.{is_no}
use Rattle.export.proofs.Tests.{marking, served_accepted, mark_says, mark_given}
use Rattle.std.proofs.Common.{sym, ap, ◌∙◌, arith}
use Rattle.export.proofs.rows.repeats.Goals as goal

pub row-requires : goal.row-requires
row-requires c = let a = c.args.asked in let o = a.operands in let f = (served_accepted _ _ _ _ _ a.served).one in omega (arith, o, f)

pub returns-in-Ok-No : goal.returns-in-Ok-No
returns-in-Ok-No c =
    sym (ap (λ (m : Mark). not (is_no m)) c.in-Ok-No.field-0-is) ∙ mark_says c.args.asked.layout.extents.now c.args.asked.layout.strides.now (marking (served_accepted _ _ _ _ _ c.args.asked.served)) (rw c.row.ensures at c.repeat_mark.ensures) c.in-Ok-No.is

pub returns-in-Ok-Yes : goal.returns-in-Ok-Yes
returns-in-Ok-Yes c =
    sym (ap (λ (m : Mark). not (is_no m)) c.in-Ok-Yes.field-0-is) ∙ mark_says c.args.asked.layout.extents.now c.args.asked.layout.strides.now (marking (served_accepted _ _ _ _ _ c.args.asked.served)) (rw c.row.ensures at c.repeat_mark.ensures) c.in-Ok-Yes.is

pub returns-in-Ok-Undecided : goal.returns-in-Ok-Undecided
returns-in-Ok-Undecided c =
    sym (ap (λ (m : Mark). not (is_no m)) c.in-Ok-Undecided.field-0-is) ∙ mark_says c.args.asked.layout.extents.now c.args.asked.layout.strides.now (marking (served_accepted _ _ _ _ _ c.args.asked.served)) (rw c.row.ensures at c.repeat_mark.ensures) c.in-Ok-Undecided.is

pub returns-in-Err : goal.returns-in-Err
returns-in-Err c = absurd (mark_given c.args.asked.layout.extents.now c.args.asked.layout.strides.now (marking (served_accepted _ _ _ _ _ c.args.asked.served)) (rw c.row.ensures at c.repeat_mark.ensures) c.in-Err.is)
