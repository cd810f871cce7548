-- The rows of a copy: their numbers in order, what they are beside planning's, and what holds where none applies.
-- Assumes nothing.
use Rattle.std.specs.Prelude.{◌≡◌, refl, Bool, true, false, not, ◌||◌, List, [], ◌∷◌, ◌++◌, ℕ, ◌≤◌, ◌<◌, ltb, leb, eqb, ℤ, length, get_or, Option, None, Some}
use Rattle.std.proofs.Common.{sym, ◌∙◌, arith, ltb-false, eqb-true}
use Rattle.std.proofs.Math.Path.{ap}
use Rattle.std.proofs.Math.Bool.{cond}
use Rattle.std.proofs.lemmas.Bool.{false≢true, eqb-false, lt-leb, not-false}
use Rattle.strided.specs.Layout.{stride_row}
use Rattle.strided.specs.Refusals.{Row, refused_by, row1, row2, row3, row4, row5, row6, row8, row9, row24, planning_rows, planning_refused}
use Rattle.strided.specs.Rows.{numbers}
use Rattle.strided.specs.Mark.{mark_of}
use Rattle.strided.specs.declared.Machine.{Machine}
use Rattle.strided.specs.declared.Mark.{Mark}
use Rattle.strided.specs.declared.Mark.TheVariants.{No, Yes, Undecided}
use Rattle.strided.specs.declared.Purpose.TheVariants.{PointwiseInto}
use Rattle.strided.specs.declared.Refusal.{Refusal}
use Rattle.laws.specs.Base.Tests.{or_none}
use Rattle.laws.specs.Base.Refusals.{NoneApplies, none_applies}
use Rattle.laws.specs.Refusals.Rows.{rows_refuse, rows_pass}
use Rattle.export.specs.Export.{row16, outside_at, is_no, cell_rows, copy_rows, copy_refused}

-- "all after 9, in this order"; and 24 stands before 5
pub copy_rows_lem : (mc : Machine) (es sizes : List ℕ) (ss zs : List ℤ) (to from : ℕ)
    → numbers (copy_rows mc es sizes ss zs to from) ≡ 1 ∷ 2 ∷ 3 ∷ 24 ∷ 5 ∷ 6 ∷ 8 ∷ 9 ∷ 16 ∷ 17 ∷ 18 ∷ []
copy_rows_lem mc es sizes ss zs to from = refl

-- ---- planning's rows, with operand 0 chosen: where row 2 passes there is an operand 0, so row 4 never applies

module _ (mc : Machine) (es sizes : List ℕ) (ss zs : List ℤ) (to from : ℕ) where
  abbrev rest : List Row
  rest = row8 (length sizes) zs ∷ row9 es (length sizes) (stride_row ss (length es)) zs ∷ cell_rows es sizes ss zs to from

  pub row4_never : (row2 (length sizes)).applies ≡ false → leb (length sizes) 0 ≡ false
  row4_never h = let n = eqb-false (length sizes) 0 (or_none (eqb (length sizes) 0) (ltb 8 (length sizes)) h).0 in lt-leb (length sizes) 0 (let g : 0 < length sizes = omega (arith, n) in g)

  pub past_planning : copy_refused mc es sizes ss zs to from ≡ refused_by (planning_rows mc es sizes ss (PointwiseInto 0) ++ rest)
  unfolding copy_refused
  past_planning = ap (λ (o : Option Refusal). cond (row1 (length es)).applies (Some (row1 (length es)).refusal) o) (go (row2 (length sizes)).applies refl)
    where
      tail : Option Refusal
      tail = refused_by (row24 mc ∷ row5 es ∷ row6 es (length sizes) (stride_row ss (length es)) ∷ rest)

      go : (b : Bool) → (row2 (length sizes)).applies ≡ b
          → cond b (Some (row2 (length sizes)).refusal) (cond (row3 (length es) (length sizes) ss).applies (Some (row3 (length es) (length sizes) ss).refusal) tail)
          ≡ cond b (Some (row2 (length sizes)).refusal) (cond (row3 (length es) (length sizes) ss).applies (Some (row3 (length es) (length sizes) ss).refusal) (cond (leb (length sizes) 0) (Some (row4 (length sizes) (PointwiseInto 0)).refusal) tail))
      go true e = refl
      go false e = ap (λ (c : Bool). cond (row3 (length es) (length sizes) ss).applies (Some (row3 (length es) (length sizes) ss).refusal) (cond c (Some (row4 (length sizes) (PointwiseInto 0)).refusal) tail)) (sym (row4_never e))

  -- what planning refuses is refused, and else the other rows decide
  pub copy_as_planning : (r : Refusal) → planning_refused mc es sizes ss (PointwiseInto 0) ≡ Some r → copy_refused mc es sizes ss zs to from ≡ Some r
  unfolding planning_refused
  copy_as_planning r h = past_planning ∙ rows_refuse (planning_rows mc es sizes ss (PointwiseInto 0)) rest r h

  pub copy_planned : planning_refused mc es sizes ss (PointwiseInto 0) ≡ None → copy_refused mc es sizes ss zs to from ≡ refused_by rest
  unfolding planning_refused
  copy_planned h = past_planning ∙ rows_pass (planning_rows mc es sizes ss (PointwiseInto 0)) rest h

-- ---- rows 16 to 18, where none applies

pub no_mark : (m : Mark) → not (is_no m) ≡ false → m ≡ No
no_mark No h = refl
no_mark Yes h = absurd (false≢true (sym h))
no_mark Undecided h = absurd (false≢true (sym h))

pub record Clean (es sizes : List ℕ) (ss zs : List ℤ) (to from : ℕ) : Type 0 where
  pub two : length sizes ≡ 2
  pub same : get_or sizes 0 0 ≡ get_or sizes 1 0
  pub some : 1 ≤ get_or sizes 0 0
  pub most : get_or sizes 0 0 ≤ 16
  pub into : outside_at es sizes ss zs 0 to ≡ false
  pub out : outside_at es sizes ss zs 1 from ≡ false
  pub once : mark_of es (stride_row ss (length es) 0) ≡ No

-- what row 16 lets through
pub record Sized (sizes : List ℕ) : Type 0 where
  pub two : length sizes ≡ 2
  pub same : get_or sizes 0 0 ≡ get_or sizes 1 0
  pub some : 1 ≤ get_or sizes 0 0
  pub most : get_or sizes 0 0 ≤ 16

pub sizes_good : (sizes : List ℕ) → (row16 sizes).applies ≡ false → Sized sizes
sizes_good sizes h =
    let a = or_none (not (eqb (length sizes) 2)) (not (eqb (get_or sizes 0 0) (get_or sizes 1 0)) || (eqb (get_or sizes 0 0) 0 || ltb 16 (get_or sizes 0 0))) h in
    let b = or_none (not (eqb (get_or sizes 0 0) (get_or sizes 1 0))) (eqb (get_or sizes 0 0) 0 || ltb 16 (get_or sizes 0 0)) a.1 in
    let d = or_none (eqb (get_or sizes 0 0) 0) (ltb 16 (get_or sizes 0 0)) b.1 in
    let z = eqb-false (get_or sizes 0 0) 0 d.0 in
    record {
      two = eqb-true (length sizes) 2 (not-false (eqb (length sizes) 2) a.0);
      same = eqb-true (get_or sizes 0 0) (get_or sizes 1 0) (not-false (eqb (get_or sizes 0 0) (get_or sizes 1 0)) b.0);
      some = omega (arith, z);
      most = ltb-false 16 (get_or sizes 0 0) d.1;
    }

pub clean : (es sizes : List ℕ) (ss zs : List ℤ) (to from : ℕ) → refused_by (cell_rows es sizes ss zs to from) ≡ None → Clean es sizes ss zs to from
unfolding NoneApplies
clean es sizes ss zs to from h =
    let n : NoneApplies (cell_rows es sizes ss zs to from) = none_applies (cell_rows es sizes ss zs to from) h in
    let g = sizes_good sizes n.0 in
    let o = or_none (outside_at es sizes ss zs 0 to) (outside_at es sizes ss zs 1 from) n.1.0 in
    record {
      two = g.two;
      same = g.same;
      some = g.some;
      most = g.most;
      into = o.0;
      out = o.1;
      once = no_mark (mark_of es (stride_row ss (length es) 0)) n.1.1.0;
    }
