-- `mark::mark_of` meets its contract: each test that answers agrees with those that the definition asks first. Assumes nothing.
use mathlib.Core.Path.{◌≡◌, sym, ap, ◌∙◌}
use mathlib.Core.Bool.{Bool, true, false, cond}
use lib.Dec.{leb}
use lib.ListN.{length}
use borrow.Author.Tests.{leb-true}
use Rattle.strided.specs.Base.{some_of}
use Rattle.strided.specs.Layout.{total}
use Rattle.strided.specs.Mark.{stays_at, rises, mark_of}
use Rattle.strided.specs.declared.Mark.TheVariants.{No, Yes}
use Rattle.laws.specs.Mark.Marks.{stays_mark, rises_mark, exact_mark_lem, open_mark}
use Rattle.mark.proofs.mark_of.Goals as goal

pub returns-then-some_stays : goal.returns-then-some_stays
returns-then-some_stays c =
    stays_mark c.args.operand.extents.now c.args.operand.strides.now c.args.operand.sound.some c.args.operand.sound.paired (sym c.some_stays.ensures ∙ c.if-some_stays.true)

pub returns-then-rising : goal.returns-then-rising
returns-then-rising c =
    let none_stays : let a = c.args in some_of (stays_at a.operand.extents.now a.operand.strides.now) 0 (length a.operand.extents.now) ≡ false = sym c.some_stays.ensures ∙ c.if-some_stays.false in
    rises_mark c.args.operand.extents.now c.args.operand.strides.now c.args.operand.sound.some c.args.operand.sound.paired none_stays (sym c.rising.ensures ∙ c.if-rising.true)

pub repeats-requires : goal.repeats-requires
repeats-requires c = leb-true (total c.args.operand.extents.now) 4096 (sym c.total_at_most.ensures ∙ c.if-total_at_most.true)

pub returns-then-repeats : goal.returns-then-repeats
returns-then-repeats c =
    let small : leb (total c.args.operand.extents.now) 4096 ≡ true = sym c.total_at_most.ensures ∙ c.if-total_at_most.true in
    -- the exact test decides
    let decides : let a = c.args in cond c.repeats.result Yes No ≡ mark_of a.operand.extents.now a.operand.strides.now = let a = c.args in
    exact_mark_lem a.operand.extents.now a.operand.strides.now c.args.operand.sound.some small c.repeats.ensures in
    ap (λ (b : Bool). cond b Yes No) (sym c.if-repeats.true) ∙ decides

pub returns-then-total_at_most : goal.returns-then-total_at_most
returns-then-total_at_most c =
    let small : leb (total c.args.operand.extents.now) 4096 ≡ true = sym c.total_at_most.ensures ∙ c.if-total_at_most.true in
    let decides : let a = c.args in cond c.repeats.result Yes No ≡ mark_of a.operand.extents.now a.operand.strides.now = let a = c.args in
    exact_mark_lem a.operand.extents.now a.operand.strides.now c.args.operand.sound.some small c.repeats.ensures in
    ap (λ (b : Bool). cond b Yes No) (sym c.if-repeats.false) ∙ decides

pub returns : goal.returns
returns c =
    let none_stays : let a = c.args in some_of (stays_at a.operand.extents.now a.operand.strides.now) 0 (length a.operand.extents.now) ≡ false = sym c.some_stays.ensures ∙ c.if-some_stays.false in
    let does-not-rise : let a = c.args in rises a.operand.extents.now a.operand.strides.now ≡ false = sym c.rising.ensures ∙ c.if-rising.false in
    let a = c.args in
    open_mark a.operand.extents.now a.operand.strides.now c.args.operand.sound.some none_stays does-not-rise (sym c.total_at_most.ensures ∙ c.if-total_at_most.false)
