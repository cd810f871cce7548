-- The listing of a layout and of numbers in arrays: the rows of the text entry, taken apart as its functions check them.
-- Assumes nothing.
use Rattle.std.specs.Prelude.{◌≡◌, List, [], ◌∷◌, ℕ, ◌*◌, ℤ, length, take, Option, None, Some}
use Rattle.strided.specs.Base.{first}
use Rattle.strided.specs.Refusals.{refused_by, row1, row2, layout_refused}
use Rattle.strided.specs.Text.{Listing, printed, row13, row14, refusing, listing_or}
use Rattle.strided.specs.declared.Purpose.{Purpose}
use Rattle.strided.specs.declared.Refusal.{Refusal}

-- rows 1 to 6, then 13, then 14
unfoldable pub listed_layout : List ℕ → List ℕ → List ℤ → Purpose → List ℕ → Listing
listed_layout es sizes ss u room =
    listing_or (first (layout_refused es sizes ss u) (refused_by (row13 es ∷ row14 (printed es sizes ss u) (length room) ∷ []))) (printed es sizes ss u) room

-- arrays with places for every layout within the limits
pub record Places (es sizes : List ℕ) (ss : List ℤ) : Type 0 where
  pub axes : length es ≡ 64
  pub few : length sizes ≡ 8
  pub all : length ss ≡ 512

abbrev pub refused_or : Option Refusal → Listing → List ℕ → Listing
refused_or None l room = l
refused_or (Some r) l room = refusing r room

-- rows 1 and 2 of the counts, then the layout in the counted places
unfoldable pub listed_numbers : ℕ → ℕ → List ℕ → List ℕ → List ℤ → Purpose → List ℕ → Listing
listed_numbers rank operands es sizes ss u room =
    refused_or (refused_by (row1 rank ∷ row2 operands ∷ [])) (listed_layout (take rank es) (take operands sizes) (take (rank * operands) ss) u room) room
