-- Summaries of a few cells, computed. Assumes nothing.
use Rattle.std.specs.Prelude.{◌≡◌, refl, true, false, List, [], ◌∷◌, ℕ, ℤ, pos, negsuc, Float, None, Some}
use Rattle.std.specs.Float.{nan, inf, fin, binary64}
use Rattle.std.specs.Float.Ieee.{add, lt, is_nan, of_bits}
use Rattle.strided.specs.Base.{some_of}
use Rattle.strided.specs.Machine.{machine_of, fixed_four, allowed}
use Rattle.strided.specs.Rows.{numbers}
use Rattle.strided.specs.declared.Machine.{Machine}
use Rattle.strided.specs.declared.Refusal.TheVariants.{Offsets, Slice, Record}
use Rattle.span.specs.Span.{outside}
use Rattle.summary.specs.declared.cell.Summary.{Summary}
use Rattle.summary.specs.Sums.{plus_zero, summary_of}
use Rattle.summary.specs.Rows.{summary_rows, summary_refused}

abbrev one : Float
one = fin false 1 (pos 0)

abbrev half : Float
half = fin false 1 (negsuc 0)

abbrev minus_three : Float
minus_three = fin true 3 (pos 0)

abbrev minus_zero : Float
minus_zero = fin true 0 (pos 0)

abbrev tenth : Float
tenth = of_bits binary64 0x3fb999999999999a

abbrev figure : Float → Float → Float → ℕ → ℕ → Summary
figure sum least greatest count nans = record { sum = sum; least = least; greatest = greatest; count = count; nans = nans; extremes = true }

-- 1, 0.5, not a number, -3
mixed : summary_of (one ∷ half ∷ nan ∷ minus_three ∷ []) ≡ figure nan minus_three one 4 1
unfolding summary_of add lt is_nan
mixed = refl

-- only cells that are not a number: no extremes, and both +0.0
lost : summary_of (nan ∷ []) ≡ record { sum = nan; least = plus_zero; greatest = plus_zero; count = 1; nans = 1; extremes = false }
unfolding summary_of add is_nan
lost = refl

-- -0.0 alone: the sum began at +0.0 and stays there, the extremes are the cell
minus_zero_lem : summary_of (minus_zero ∷ []) ≡ figure plus_zero minus_zero minus_zero 1 0
unfolding summary_of add lt is_nan
minus_zero_lem = refl

-- either zero first: the other is not strictly smaller, nor strictly greater
zeros : summary_of (plus_zero ∷ minus_zero ∷ []) ≡ figure plus_zero plus_zero plus_zero 2 0
unfolding summary_of add lt is_nan
zeros = refl

-- infinities of both signs: the sum is not a number, though no cell is so
infinities : summary_of (inf true ∷ inf false ∷ []) ≡ figure nan (inf true) (inf false) 2 0
unfolding summary_of add lt is_nan
infinities = refl

-- ten times 0.1 is not 1: each addition rounds
tenths : (summary_of (tenth ∷ tenth ∷ tenth ∷ tenth ∷ tenth ∷ tenth ∷ tenth ∷ tenth ∷ tenth ∷ tenth ∷ [])).sum ≡ of_bits binary64 0x3fefffffffffffff
unfolding summary_of add lt is_nan of_bits
tenths = refl

-- ---- the rows

-- the numbers of the rows, in the order in which they are asked, whatever the entry is called with
pub summary_rows_lem : (mc : Machine) (es : List ℕ) (ss : List ℤ) (z : ℤ) (n : ℕ) → numbers (summary_rows mc es ss z n) ≡ 1 ∷ 3 ∷ 24 ∷ 5 ∷ 6 ∷ 9 ∷ 22 ∷ []
summary_rows_lem mc es ss z n = refl

-- 9 before 22, and neither at a zero extent; 24 there too
rows_right : (summary_refused fixed_four (2 ∷ []) (pos 1 ∷ []) (pos 9223372036854775807) 0 ≡ Some Offsets)
    × (summary_refused fixed_four (2 ∷ []) (pos 1 ∷ []) (pos 0) 1 ≡ Some Slice) × (summary_refused fixed_four (2 ∷ []) (pos 1 ∷ []) (pos 0) 2 ≡ None)
    × (summary_refused fixed_four (2 ∷ []) (negsuc 0 ∷ []) (pos 0) 2 ≡ Some Slice) × (summary_refused fixed_four (0 ∷ []) (pos 1 ∷ []) (pos 9223372036854775807) 0 ≡ None)
    × (summary_refused (machine_of 64 32768 4096 17) (0 ∷ []) (pos 1 ∷ []) (pos 0) 0 ≡ Some Record)
unfolding summary_refused outside some_of allowed
rows_right = (refl, refl, refl, refl, refl, refl)
