-- `mark::repeat_mark` meets its contract: rows 1, 3, 5 and 6, one after the other, else the mark. Assumes nothing.
use mathlib.Core.Path.{◌≡◌, sym, ◌∙◌}
use mathlib.Core.Bool.{Bool, false}
use mathlib.Core.List.{List, [], ◌∷◌}
use Prim.Native.Nat.{ℕ, ◌*◌}
use native.Mathlib.Omega.{arith}
use lib.Dec.{eqb}
use lib.IntN.{ℤ}
use lib.ListN.{length}
use borrow.Author.Tests.{ltb-false, eqb-true, not-false}
use Rattle.strided.specs.Layout.{has_zero}
use Rattle.strided.specs.Refusals.{refused_by, answered, row3, row5, row6}
use Rattle.strided.specs.Mark.{mark_rows, mark_refused, mark_of, marked}
use Rattle.strided.specs.declared.Mark.{Mark}
use Rattle.strided.specs.declared.Mark.TheVariants.{No}
use Rattle.strided.specs.declared.Refusal.{Refusal}
use Rattle.laws.specs.Refusals.Rows.{Past, past_none, past_next, past_refused, past_served, refused_too, served_too}
use Rattle.laws.specs.Mark.Marks.{zero_mark}
use Rattle.mark.proofs.Tests.{row6-one, row6-within}
use Rattle.std.specs.Prelude.{Ok, Err}
use Rattle.mark.proofs.repeat_mark.Goals as goal
use Rattle.mark.proofs.repeat_mark.Goals.{After-strides_wrong, After-total_over, After-reach_over}

module _ (es : List ℕ) (ts : List ℤ) where
  refuses : {r : Refusal} → Err r ≡ answered (refused_by (mark_rows es ts)) → Err r ≡ marked es ts
  unfolding marked mark_refused
  refuses h = refused_too (refused_by (mark_rows es ts)) _ h

  serves : (m : Mark) → Ok tt ≡ answered (refused_by (mark_rows es ts)) → m ≡ mark_of es ts → Ok m ≡ marked es ts
  unfolding marked mark_refused
  serves m h e = served_too (refused_by (mark_rows es ts)) h e

  -- row 3 of one operand
  one-row : {b : Bool} → b ≡ (row3 (length es) 1 ts).applies → b ≡ false → length ts ≡ length es
  one-row is h = let e : length ts ≡ length es * 1 = eqb-true (length ts) (length es * 1) (not-false (eqb (length ts) (length es * 1)) (sym is ∙ h)) in omega arith

-- the rows passed, one by one
behind_1 : (c : After-strides_wrong) → let a = c.args in
    Past (mark_rows a.extents.now a.strides.now) (row3 (length a.extents.now) 1 a.strides.now ∷ row5 a.extents.now ∷ row6 a.extents.now 1 (λ k. a.strides.now) ∷ [])
behind_1 c = past_next (past_none _) c.rank_over.ensures c.if-rank_over.false

behind_3 : (c : After-total_over) → let a = c.args in Past (mark_rows a.extents.now a.strides.now) (row5 a.extents.now ∷ row6 a.extents.now 1 (λ k. a.strides.now) ∷ [])
behind_3 c = past_next (past_next (past_none _) c.rank_over.ensures c.if-rank_over.false) c.strides_wrong.ensures c.if-strides_wrong.false

behind_5 : (c : After-reach_over) → let a = c.args in Past (mark_rows a.extents.now a.strides.now) (row6 a.extents.now 1 (λ k. a.strides.now) ∷ [])
behind_5 c =
    past_next (past_next (past_next (past_none _) c.rank_over.ensures c.if-rank_over.false) c.strides_wrong.ensures c.if-strides_wrong.false)
    c.total_over.ensures c.if-total_over.false

as_many : (c : After-total_over) → length c.args.strides.now ≡ length c.args.extents.now
as_many c = one-row c.args.extents.now c.args.strides.now c.strides_wrong.ensures c.if-strides_wrong.false

-- row 6 is asked of the strides as one operand's
row-6 : (c : After-reach_over) → c.reach_over.result ≡ (row6 c.args.extents.now 1 (λ k. c.args.strides.now)).applies
row-6 c =
    let a = c.args in
    let q = one-row a.extents.now a.strides.now c.strides_wrong.ensures c.if-strides_wrong.false in
    c.reach_over.ensures ∙ row6-one a.extents.now a.strides.now q (length a.extents.now)

pub returns-then-rank_over : goal.returns-then-rank_over
returns-then-rank_over c =
    let a = c.args in
    refuses _ _ (past_refused (past_none (mark_rows a.extents.now a.strides.now)) c.rank_over.ensures c.if-rank_over.true)

pub strides_wrong-requires : goal.strides_wrong-requires
strides_wrong-requires c = (ltb-false 64 _ (sym c.rank_over.ensures ∙ c.if-rank_over.false), omega arith)

pub returns-then-strides_wrong : goal.returns-then-strides_wrong
returns-then-strides_wrong c =
    refuses _ _ (past_refused (behind_1 (goal.at.returns-then-strides_wrong c).After-strides_wrong) c.strides_wrong.ensures c.if-strides_wrong.true)

pub returns-then-total_over : goal.returns-then-total_over
returns-then-total_over c =
    refuses _ _ (past_refused (behind_3 (goal.at.returns-then-total_over c).After-total_over) c.total_over.ensures c.if-total_over.true)

pub returns-then-reach_over : goal.returns-then-reach_over
returns-then-reach_over c =
    let l = (goal.at.returns-then-reach_over c).After-reach_over in
    refuses _ _ (past_refused (behind_5 l) (row-6 l) c.if-reach_over.true)

pub returns-then-has_zero : goal.returns-then-has_zero
returns-then-has_zero c =
    let a = c.args in
    let l = (goal.at.returns-then-has_zero c).After-reach_over in
    serves _ _ No (past_served (past_next (behind_5 l) (row-6 l) c.if-reach_over.false)) (zero_mark a.extents.now a.strides.now (sym c.has_zero.ensures ∙ c.if-has_zero.true))

pub invariant_of-mark_of : goal.invariant_of-mark_of
invariant_of-mark_of c =
    let a = c.args in
    let many = as_many (goal.at.invariant_of-mark_of c).After-total_over in
    let some : has_zero a.extents.now ≡ false = sym c.has_zero.ensures ∙ c.if-has_zero.false in
    let six = row-6 (goal.at.invariant_of-mark_of c).After-reach_over in
    record { sound = record { paired = many; some = some; near = row6-within a.extents.now a.strides.now many (sym six ∙ c.if-reach_over.false) some } }

pub returns : goal.returns
returns c =
    let l = (goal.at.returns c).After-reach_over in
    serves _ _ c.mark_of.result (past_served (past_next (behind_5 l) (row-6 l) c.if-reach_over.false)) c.mark_of.ensures
