-- The width of a copy's cells: what row 16 finds, and what the rows of the cells let through. Assumes nothing.
use Rattle.std.specs.Prelude.{◌≡◌, true, false, List, ℕ, Option, None, Some, Result, MatchResult}
use Rattle.strided.specs.declared.Refusal.{Refusal}
use Rattle.export.specs.declared.width.Width.{Width}
use Rattle.export.specs.Export.{row16, width_of}

-- row 16 lets these sizes through, and this is their cells' width; or it applies
abbrev pub Found : List ℕ → Option Width → Type 0
Found sizes None = (row16 sizes).applies ≡ true
Found sizes (Some w) = ((row16 sizes).applies ≡ false) × (w.bytes ≡ width_of sizes)

-- nothing is refused, and this is the width; or this is refused
abbrev pub Passed : Option Refusal → List ℕ → Result Width Refusal → Type 0
Passed refused sizes r = MatchResult r (λ w. (refused ≡ None) × (w.bytes ≡ width_of sizes)) (λ q. refused ≡ Some q)
