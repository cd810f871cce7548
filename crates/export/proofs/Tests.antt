-- What the test of row 18 asks, and the row as the code tests it.
-- Assumes nothing.
use mathlib.Core.Path.{◌≡◌, sym, ap, ◌∙◌, subst}
use mathlib.Core.Bool.{false, not}
use mathlib.Core.List.{List}
use Rattle.std.specs.Prelude.{Option, None, Some, Ok, Err, Result}
use Prim.Native.Nat.{ℕ, ◌*◌, ◌^◌, ◌≤◌, ◌<◌}
use native.Mathlib.Nat.{zero-mul, mul-one}
use native.Mathlib.Omega.{arith}
use lib.Dec.{ltb, eqb}
use lib.IntN.{ℤ}
use lib.ListN.{length, take, drop, length-take}
use borrow.Author.Tests.{le-ltb, eq-eqb}
use Rattle.strided.specs.Base.{some_of}
use Rattle.strided.specs.Layout.{stride_row, has_zero, total, reach, max_u, max_i}
use Rattle.strided.specs.Refusals.{row5, served_unless}
use Rattle.strided.specs.Mark.{mark_of, mark_rows, mark_refused, marked}
use Rattle.strided.specs.declared.Refusal.{Refusal}
use Rattle.laws.specs.Base.Refusals.{NoneApplies}
use Rattle.laws.specs.Base.Rows.{row_fits, length_strides}
use Rattle.laws.specs.Refusals.Accepted.{Accepted, accepted}
use Rattle.laws.specs.Refusals.Record.{planning_layout}
use Rattle.strided.specs.Refusals.{planning_refused}
use Rattle.strided.specs.declared.Machine.{Machine}
use Rattle.span.specs.Span.{Spans}
use Rattle.export.specs.Width.{Passed}
use Rattle.export.specs.declared.width.Width.{Width}
use Rattle.strided.specs.declared.Purpose.{Purpose}
use Rattle.laws.specs.Refusals.Operands.{some_of_none}
use Rattle.laws.specs.Refusals.Rows.{none_refuses, passes-unless}
use Rattle.laws.specs.Refusals.Zeros.{row5-total}
use Rattle.export.specs.Export.{row18, is_no, width_of}
use Rattle.strided.specs.declared.Mark.{Mark}

-- ---- the mark of operand 0

-- the mark is told of it: rows 1, 3, 5 and 6 pass
pub record Marking (es : List ℕ) (ss : List ℤ) : Type 0 where
  pub axes : length es ≤ 64
  pub there : length es ≤ length ss
  pub cells : total es < 2 ^ 64
  pub near : has_zero es ≡ false → reach es (stride_row ss (length es) 0) ≤ max_i

module _ (es : List ℕ) (ss : List ℤ) (h : Marking es ss) where
  first-row : take (length es) ss ≡ stride_row ss (length es) 0
  first-row = ap (λ (n : ℕ). take (length es) (drop n ss)) (sym (zero-mul (length es)))

  pub first_long : length es ≡ length (take (length es) ss)
  first_long = let a = length-take (length es) ss in let t = h.there in omega (arith, a, t)

  not-refused : mark_refused es (take (length es) ss) ≡ None
  unfolding mark_refused NoneApplies
  not-refused =
      let ts : List ℤ = take (length es) ss in
      let three : not (eqb (length ts) (length es * 1)) ≡ false = ap not (eq-eqb (length ts) (length es * 1) (sym first_long ∙ sym (mul-one (length es)))) in
      let five : (row5 es).applies ≡ false = row5-total es ∙ le-ltb max_u (total es) (let c = h.cells in omega (arith, c)) in
      let near : has_zero es ≡ false → reach es ts ≤ max_i = λ q. subst (λ (l : List ℤ). reach es l ≤ max_i) (sym first-row) (h.near q) in
      none_refuses (mark_rows es ts) (
        le-ltb 64 (length es) h.axes,
        (
          three,
          (
            five,
            (
              passes-unless (has_zero es) (some_of (λ k. ltb max_i (reach es ts)) 0 1)
                  (λ q. some_of_none (λ k. ltb max_i (reach es ts)) 1 (λ k l. le-ltb max_i (reach es ts) (near q))),
              tt,
            ),
          ),
        ),
      )

  -- it is told
  pub mark_told : marked es (take (length es) ss) ≡ Ok (mark_of es (stride_row ss (length es) 0))
  unfolding marked
  mark_told = ap (λ (o : Option Refusal). served_unless o (mark_of es (take (length es) ss))) not-refused ∙ ap (λ (ts : List ℤ). Ok (mark_of es ts)) first-row

  -- so what it answers says whether row 18 applies
  pub mark_says : {given : Result Mark Refusal} → given ≡ marked es (stride_row ss (length es) 0) → {m : Mark} → given ≡ Ok m → not (is_no m) ≡ (row18 es ss).applies
  mark_says is q =
      let e : Ok _ ≡ Ok (mark_of es (stride_row ss (length es) 0)) = sym q ∙ is ∙ ap (marked es) (sym first-row) ∙ mark_told in
      ap (λ (m : Mark). not (is_no m)) (cc e)

  pub mark_given : {given : Result Mark Refusal} → given ≡ marked es (stride_row ss (length es) 0) → {r : Refusal} → given ≡ Err r → ⊥
  mark_given is {r} q =
      let e : Err r ≡ Ok (mark_of es (stride_row ss (length es) 0)) = sym q ∙ is ∙ ap (marked es) (sym first-row) ∙ mark_told in
      cc e

-- ---- what planning's rows have let through

module _ {es sizes : List ℕ} {ss : List ℤ} {u : Purpose} (a : Accepted es sizes ss u) where
  pub marking : Marking es ss
  marking =
      let o : 0 < length sizes = omega (arith, a.one) in
      let f = row_fits 0 (length es) (length sizes) o in
      let s = a.strides in
      record { axes = a.axes; there = omega (arith, f, s); cells = a.cells; near = λ q. a.near q 0 o }

-- and so of what a copy is asked for
pub served_accepted : (mc : Machine) (es sizes : List ℕ) (ss : List ℤ) (u : Purpose) → planning_refused mc es sizes ss u ≡ None → Accepted es sizes ss u
served_accepted mc es sizes ss u h = accepted es sizes ss u (planning_layout mc es sizes ss u h)

-- the test of row 17 asks so much
pub served_spans : (mc : Machine) (es sizes : List ℕ) (ss : List ℤ) (u : Purpose) → planning_refused mc es sizes ss u ≡ None → (k : ℕ) → k < length sizes
    → Spans es (stride_row ss (length es) k)
served_spans mc es sizes ss u h k l =
    let a = served_accepted mc es sizes ss u h in record { long = length_strides ss (length es) (length sizes) k a.strides l; near = λ q. a.near q k l }

-- what the rows of the cells let through, and what they refuse
module _ (refused : Option Refusal) (sizes : List ℕ) {r : Result Width Refusal} (p : Passed refused sizes r) where
  pub passed_width : {w : Width} → r ≡ Ok w → (refused ≡ None) × (w.bytes ≡ width_of sizes)
  passed_width e = subst (Passed refused sizes) e p

  pub passed_none : {q : Refusal} → r ≡ Err q → refused ≡ Some q
  passed_none e = subst (Passed refused sizes) e p
