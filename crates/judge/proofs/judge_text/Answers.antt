-- `judge::judge_text` meets its contract: a law for each way out: some run leaves, all are laid, not in the form.
-- Assumes nothing.
use mathlib.Core.Path.{◌≡◌, ap, ◌∙◌}
use Prim.Native.Nat.{ℕ}
use lib.ListN.{length, replicate}
use borrow.Author.Rules.{rules}
use Rattle.std.specs.Prelude.{Some}
use Rattle.strided.specs.Layout.{total}
use Rattle.judge.proofs.Judging.{open_of, text_outside, text_enclosed, text_judged}
use Rattle.judge.proofs.judge_text.Goals as goal

pub invariant_of-cells : goal.invariant_of-cells
invariant_of-cells c =
    let n = open_of c.args.extents.now (length c.args.marks.now) c.requires in record { few = n.axes; small = n.few }

pub returns-then-out : goal.returns-then-out
returns-then-out c =
    let some : c.see_text.result ≡ Some c.in_ok-out.out = search rules in
    let n = open_of c.args.extents.now (length c.args.marks.now) c.requires in
    text_outside c.args.extents.now c.args.text.now c.args.marks.now c.see_text.ensures some c.if-out.true _ (c.fill.ensures.after (λ y e. e) ∙ ap (λ (k : ℕ). replicate k 0) n.size)

pub lay_text-again-requires : goal.lay_text-again-requires
lay_text-again-requires c =
    let some : c.see_text.result ≡ Some c.in_ok-out.out = search rules in
    let n = open_of c.args.extents.now (length c.args.marks.now) c.requires in
    let l = c.fill in
    let t = total c.args.extents.now in
    let e : l.new.self ≡ replicate t 0 = l.ensures.after (λ y e. e) ∙ ap (λ (k : ℕ). replicate k 0) n.size in
    (text_enclosed c.args.extents.now c.args.text.now c.args.marks.now c.see_text.ensures some c.if-out.false, e)

pub returns : goal.returns
returns c =
    let some : c.see_text.result ≡ Some c.in_ok-out.out = search rules in
    text_judged c.args.extents.now c.args.text.now c.args.marks.now c.see_text.ensures some c.if-out.false c.lay_text-again.ensures c.decide.ensures
