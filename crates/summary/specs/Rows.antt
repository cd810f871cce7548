-- What a summary is refused for, and what the entry answers. "The entry takes extents, that operand's strides and a start; operand count and
-- size are no input, and row 3 reads one operand"; "22: a cell outside the slice; after 9".
-- Assumes nothing.
use Rattle.std.specs.Prelude.{List, [], ◌∷◌, map, ℕ, ℤ, Float, length, Option, Result}
use Rattle.strided.specs.Layout.{stride_row}
use Rattle.strided.specs.Refusals.{Row, refused_by, row1, row3, row5, row6, row9, row24, served_unless}
use Rattle.strided.specs.declared.Machine.{Machine}
use Rattle.strided.specs.declared.Refusal.{Refusal}
use Rattle.strided.specs.declared.Refusal.TheVariants.{Slice}
use Rattle.span.specs.Span.{outside}
use Rattle.summary.specs.declared.cell.Summary.{Summary}
use Rattle.summary.specs.Sums.{summary_of}
use Rattle.summary.specs.Visits.{visits, cell_of}

-- 22, "a cell outside the slice": the offset of some index is that of none of the slice's n cells. At a zero extent there is no index
-- (crate span, Exact: the test by the least and the greatest offset is that claim)
abbrev pub row22 : List ℕ → List ℤ → ℤ → ℕ → Row
row22 es ts z n = record { applies = outside es ts z n; refusal = Slice }

-- 1, 3, 24, 5, 6, 9, 22. "24: .. after 4, and due at a zero extent too"
abbrev pub summary_rows : Machine → List ℕ → List ℤ → ℤ → ℕ → List Row
summary_rows mc es ss z n =
    row1 (length es) ∷ row3 (length es) 1 ss ∷ row24 mc ∷ row5 es ∷ row6 es 1 (stride_row ss (length es))
    ∷ row9 es 1 (stride_row ss (length es)) (z ∷ []) ∷ row22 es (stride_row ss (length es) 0) z n ∷ []

unfoldable pub summary_refused : Machine → List ℕ → List ℤ → ℤ → ℕ → Option Refusal
summary_refused mc es ss z n = refused_by (summary_rows mc es ss z n)

-- the cells that are met, in order
abbrev pub cells_met : Machine → List ℕ → List ℤ → ℤ → List Float → List Float
cells_met mc es ss z cells = map (cell_of cells) (visits mc es ss z)

-- THE SUMMARY of the operand's cells, in the order of its plan: "A refusal carries its number and nothing else."
unfoldable pub summarized : Machine → List ℕ → List ℤ → ℤ → List Float → Result Summary Refusal
summarized mc es ss z cells = served_unless (summary_refused mc es ss z (length cells)) (summary_of (cells_met mc es ss z cells))
