-- `session::check::check_joining` meets its contract: rows 20, 3 and 6, one after the other. Assumes nothing.
use mathlib.Core.Path.{◌≡◌, refl, sym, ◌∙◌, subst}
use Prim.Native.Nat.{◌*◌, ◌≤◌}
use native.Mathlib.Omega.{arith}
use lib.ListN.{length, take}
use mathlib.Core.List.{[], ◌∷◌}
use borrow.Author.Tests.{lt-leb, eqb-true, not-false}
use lib.Dec.{eqb}
use Rattle.std.specs.Prelude.{Ok, Err}
use Rattle.strided.specs.declared.Refusal.TheVariants.{Reach}
use lib.Seq.{length-take-le}
use Rattle.laws.specs.Refusals.Rows.{Past, past_none, past_next, past_refused, past_served}
use Rattle.strided.specs.Refusals.{row6, answered, refused_by}
use Rattle.session.specs.Session.{new_rows}
use Rattle.session.proofs.Holding.{new_far}
use Rattle.session.proofs.check.check_joining.Goals as goal
use Rattle.session.proofs.check.check_joining.Goals.{After-reach_over}

-- rows 20 and 3 are passed
passed : (c : After-reach_over) → let i = c.session.inside in let E = take i.numbers.rank i.extents.now in let ts = c.args.joining.now in
    Past (new_rows i.numbers.rank i.numbers.operands E ts) (row6 E 1 (λ k. ts) ∷ [])
passed c =
    let i = c.session.inside in
    past_next (past_next (past_none (new_rows i.numbers.rank i.numbers.operands (take i.numbers.rank i.extents.now) c.args.joining.now)) refl (lt-leb 8 i.numbers.operands c.if-operands-ge-MAX_OPERANDS.false))
    c.strides_wrong.ensures c.if-strides_wrong.false

-- and row 6 is asked of the strides as one operand's
row-6 : (c : After-reach_over) → let i = c.session.inside in c.reach_over.result ≡ (row6 (take i.numbers.rank i.extents.now) 1 (λ k. c.args.joining.now)).applies
row-6 c =
    let i = c.session.inside in
    let ts = c.args.joining.now in
    let axes = subst (λ s. s.rank ≤ 64) (sym c.session.view_is) c.requires in
    let long : length (take i.numbers.rank i.extents.now) ≡ i.numbers.rank = length-take-le i.numbers.rank i.extents.now (omega (arith, c.session.invariant.extents, axes)) in
    let q = eqb-true (length ts) (i.numbers.rank * 1) (not-false (eqb (length ts) (i.numbers.rank * 1)) (sym c.strides_wrong.ensures ∙ c.if-strides_wrong.false)) in
    let counted : length ts ≡ i.numbers.rank = omega (arith, q) in
    c.reach_over.ensures ∙ new_far (take i.numbers.rank i.extents.now) ts i.numbers.rank long counted

pub returns-then-reach_over : goal.returns-then-reach_over
returns-then-reach_over c =
    let l = (goal.at.returns-then-reach_over c).After-reach_over in
    subst (λ s. Err Reach ≡ answered (refused_by (new_rows s.rank s.operands (take s.rank s.extents) c.args.joining.now))) c.session.view_is
    (past_refused (passed l) (row-6 l) c.if-reach_over.true)

pub returns : goal.returns
returns c =
    let l = (goal.at.returns c).After-reach_over in
    subst (λ s. Ok tt ≡ answered (refused_by (new_rows s.rank s.operands (take s.rank s.extents) c.args.joining.now))) c.session.view_is
    (past_served (past_next (passed l) (row-6 l) c.if-reach_over.false))
