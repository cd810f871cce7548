-- The text that goes back, by its three lines, and what becomes of the room.
-- Assumes nothing.
use mathlib.Core.Path.{◌≡◌, ap₂}
use mathlib.Core.List.{List, [], ◌∷◌, ◌++◌, append-nil}
use Prim.Native.Nat.{ℕ, ◌+◌, ◌≤◌}
use lib.IntN.{ℤ}
use lib.ListN.{length, drop}
use Rattle.std.specs.Prelude.{Option, None, Some}
use Rattle.writing.specs.Put.{Wrote}
use Rattle.writing.specs.Putting.{wrote_first}
use Rattle.writing.specs.Sink.{Goes}
use Rattle.writing.specs.declared.sink.Place.{Place}
use Rattle.strided.specs.Base.{over}
use Rattle.strided.specs.Refusals.{refused_by}
use Rattle.strided.specs.Text.{field, line_of, Listing, listing_or, row14}
use Rattle.writing.specs.Line.{fields_of}
use Rattle.writing.proofs.Lines.{figures_fields}
use Rattle.numpy.specs.Readers.{spelled}

-- the lines as they are put
abbrev pub head_of : ℕ → List ℕ → List ℕ
head_of size es = line_of 78 (fields_of (size ∷ length es ∷ []) [])

abbrev pub shape_of : List ℕ → List ℕ
shape_of es = line_of 83 (fields_of es [])

abbrev pub bytes_of : List ℤ → List ℕ
bytes_of ts = line_of 84 (fields_of [] ts)

pub spelled_parts : (size : ℕ) (es : List ℕ) (ts : List ℤ) → head_of size es ++ (shape_of es ++ bytes_of ts) ≡ spelled size es ts
unfolding spelled
spelled_parts size es ts =
    ap₂ (λ (x y : List ℕ). line_of 78 x ++ (line_of 83 y ++ bytes_of ts)) (figures_fields size (length es)) (append-nil (over es field))

-- row 14
module _ (t room : List ℕ) where
  abbrev pub Listed : Listing
  Listed = listing_or (refused_by (row14 t (length room) ∷ [])) t room

-- what is written from the first byte on
pub written : (out t new : List ℕ) (r : Option Place)
    → Goes {S = Place} (λ s o u s' o'. (s.at + length u ≤ length o) × Wrote o s.at u o' s'.at) (λ s u. ⊥) (record { at = 0 }) out t new r → new ≡ t ++ drop (length t) out
written out t new None g = absurd g
written out t new (Some s') g = (wrote_first g.1).1
