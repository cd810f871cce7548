-- A text that is in the form and one that is not: the form is neither empty nor everything. That the example's text is what is written of it, and
-- what is printed for it, are rows of the figures table of crate strided.
-- Assumes nothing.
use Rattle.std.specs.Prelude.{◌≡◌, refl, [], ℕ}
use Rattle.std.proofs.Common.{arith}
use Rattle.strided.specs.Digits.{digits_of}
use Rattle.strided.specs.Text.{InForm, NotInForm}
use Rattle.strided.specs.Figures.{example, example_text}

-- the worked example
pub example_in_form : InForm example_text example
unfolding digits_of
example_in_form =
    record {
      short = omega arith;
      form = refl;
      axes = refl;
      operand_lines = refl;
      rows = (record { count = refl; size_fits_lem = omega arith; strides_fit = (omega arith, (omega arith, tt)) }, (record { count = refl; size_fits_lem = omega arith; strides_fit = (omega arith, (omega arith, tt)) }, tt));
      rank_fits = omega arith;
      operands_fit = omega arith;
      chosen_fits = omega arith;
      extents_fit = (omega arith, (omega arith, tt));
    }

-- the empty text
pub empty_not_in_form : NotInForm []
empty_not_in_form p f = let q = f.form in let z : ◌≡◌ {A = ℕ} 0 1 = cc in absurd (omega arith)
