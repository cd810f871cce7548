-- What the reader of a whole text answers.
-- Assumes nothing.
use Rattle.std.specs.Prelude.{◌≡◌, List, ℕ, Option, Some, None}
use Rattle.strided.specs.Text.{Parsed, InForm, NotInForm}
use Rattle.strided.specs.declared.Purpose.{Purpose}
use Rattle.reading.specs.Lines.{Arrays, laid}
use Rattle.reading.specs.declared.Said.{Said}

-- the text says p, which has this purpose and these counts, and the arrays hold its numbers from place 0 on, as far as they have places
pub record Says (text : List ℕ) (p : Parsed) (u : Purpose) (rank operands : ℕ) (old new : Arrays) : Type 0 where
  pub form : InForm text p
  pub purposes : p.purpose ≡ u
  pub ranks : p.rank ≡ rank
  pub counts : p.operands ≡ operands
  pub arrays : new ≡ laid old p.extents p.lines

-- THE READER: what it answers is what the text says, or the text is not in the form
pub record ReadsText (text : List ℕ) (old new : Arrays) (r : Option Said) : Type 0 where
  pub layout : (l : Said) → r ≡ Some l → (p : Parsed) × Says text p l.purpose l.rank l.operands old new
  pub unformed : r ≡ None → NotInForm text
