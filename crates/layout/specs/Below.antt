-- The first of the places at which a number is below its bound.
-- Assumes nothing.
use Rattle.std.specs.Prelude.{◌≡◌, List, ℕ, ◌≤◌, ◌<◌, Option, Some, None, length, get_or}
use Rattle.strided.specs.Decline.{first_cut}

-- it is what `first_cut` counts to; where there is none that is the count of the numbers
abbrev pub FirstBelow : List ℕ → List ℕ → Option ℕ → Type 0
FirstBelow ns bs (Some i) = (i ≡ first_cut bs ns (length ns)) × (i < length ns) × (get_or ns i 0 < get_or bs i 0) × ((j : ℕ) → j < i → get_or bs j 0 ≤ get_or ns j 0)
FirstBelow ns bs None = (length ns ≡ first_cut bs ns (length ns)) × ((j : ℕ) → j < length ns → get_or bs j 0 ≤ get_or ns j 0)
