-- What a text in the form is to planning. Its counts are those of a layout, so row 3 never applies, and the rows in front of 13 refuse it as
-- planning does. And the contract of the text entry: how the listing of what a text says meets it, and that it fixes the listing.
-- Assumes nothing.
use Rattle.std.specs.Prelude.{◌≡◌, refl, ◌⊎◌, Bool, false, not, List, [], ◌∷◌, ℕ, ◌+◌, ◌*◌, length, Option, None, Some, Ok}
use Rattle.std.proofs.Math.Path.{sym, ap, ap₂}
use Rattle.std.proofs.Common.{◌∙◌, inl, inr, arith, length-append, eq-eqb}
use Rattle.std.proofs.lemmas.List.{length-map}
use Rattle.strided.specs.Base.{over, first}
use Rattle.strided.specs.Layout.{stride_row}
use Rattle.strided.specs.Refusals.{Row, refused_by, layout_refused, planning_refused, row1, row2, row3, row4, row5, row6, served_unless}
use Rattle.strided.specs.Machine.{fixed_four}
use Rattle.strided.specs.Plan.{planned, the_plan}
use Rattle.strided.specs.Text.{OperandLine, Parsed, InForm, LineFits, Each, NotInForm, Listing, Lists, sizes_of, strides_of, layout_rows_of, text_refused, refusing, listed}
use Rattle.strided.specs.declared.Refusal.{Refusal}
use Rattle.strided.specs.declared.Refusal.TheVariants.{StrideCount, Form}
use Rattle.laws.specs.Refusals.Record.{planning_fixed}
use Rattle.laws.specs.Text.Once.{in_form_once}

-- rank strides on each line: lines × rank in all
strides_count : (rank : ℕ) (ls : List OperandLine) → Each (LineFits rank) ls → length (over ls (λ (o : OperandLine). o.strides)) ≡ rank * length ls
strides_count rank [] h = omega arith
strides_count rank (o ∷ ls) h =
    length-append o.strides (over ls (λ (o : OperandLine). o.strides)) ∙ ap₂ ◌+◌ h.0.count (strides_count rank ls h.1) ∙ omega arith

first_none : (a b : Option Refusal) → first a b ≡ None → a ≡ None
first_none None b e = refl
first_none (Some r) b e = e

module _ {text : List ℕ} {p : Parsed} (f : InForm text p) where
  -- the counts of the layout that the text says
  pub sizes-all : length (sizes_of p) ≡ p.operands
  sizes-all = length-map p.lines (λ (o : OperandLine). o.size) ∙ f.operand_lines

  pub strides_all : length (strides_of p) ≡ p.rank * p.operands
  strides_all = strides_count p.rank p.lines f.rows ∙ ap (λ (n : ℕ). p.rank * n) f.operand_lines

  -- row 3 does not apply
  pub no_row3 : (row3 p.rank p.operands (strides_of p)).applies ≡ false
  no_row3 = ap not (eq-eqb (length (strides_of p)) (p.rank * p.operands) strides_all)

  -- the layout's rows, with a rank, a count of operands and an outcome of row 3 put in
  rows_by : ℕ → ℕ → Bool → List Row
  rows_by r n b =
      row1 r ∷ row2 n ∷ record { applies = b; refusal = StrideCount } ∷ row4 n p.purpose ∷ row5 p.extents
      ∷ row6 p.extents n (stride_row (strides_of p) r) ∷ []

  -- the rows in front of 13 refuse as planning does
  pub as_planning : refused_by (layout_rows_of p) ≡ layout_refused p.extents (sizes_of p) (strides_of p) p.purpose
  unfolding layout_refused rows_by
  as_planning =
      ap (λ (b : Bool). refused_by (rows_by p.rank p.operands b)) (sym no_row3)
      ∙ ap₂ (λ (r n : ℕ). refused_by (rows_by r n (row3 r n (strides_of p)).applies)) (sym f.axes) (sym sizes-all)

  -- so a text that is not refused has a plan, and the output is that plan's
  pub has_plan : (room : ℕ) → text_refused p room ≡ None
      → planned fixed_four p.extents (sizes_of p) (strides_of p) p.purpose
      ≡ Ok (the_plan fixed_four p.extents (sizes_of p) (strides_of p) p.purpose)
  unfolding text_refused planned
  has_plan room e =
      let q : planning_refused fixed_four p.extents (sizes_of p) (strides_of p) p.purpose ≡ None =
      planning_fixed p.extents (sizes_of p) (strides_of p) p.purpose ∙ sym as_planning ∙ first_none _ _ e in
      ap (λ (r : Option Refusal). served_unless r (the_plan fixed_four p.extents (sizes_of p) (strides_of p) p.purpose)) q

  -- the listing of what the text says is the text's: it says nothing else
  pub lists_said : (room : List ℕ) (l : Listing) → l ≡ listed p room → Lists text room l
  lists_said room l e =
      record {
        formed = λ q g. e ∙ ap (λ (x : Parsed). listed x room) (in_form_once f g);
        unformed = λ n. absurd (n p f);
        either = inl (p, f);
      }

-- a text that is not in the form is refused with 12
pub lists_unformed : {text : List ℕ} → NotInForm text → (room : List ℕ) (l : Listing) → l ≡ refusing Form room → Lists text room l
lists_unformed n room l e = record { formed = λ p f. absurd (n p f); unformed = λ _. e; either = inr n }

-- a text and the lent bytes have one listing at most
pub one_listing : (text room : List ℕ) (a b : Listing) → Lists text room a → Lists text room b → a ≡ b
one_listing text room a b x y = go x.either
  where
    go : ((p : Parsed) × InForm text p) ⊎ NotInForm text → a ≡ b
    go (inl q) = x.formed q.0 q.1 ∙ sym (y.formed q.0 q.1)
    go (inr n) = x.unformed n ∙ sym (y.unformed n)
