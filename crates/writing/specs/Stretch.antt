-- The lines of a stretch's blocks. Assumes nothing.
use Rattle.std.specs.Prelude.{List, ℕ, ℤ}
use Rattle.walker.specs.declared.Next.{Next}
use Rattle.walker.specs.Stretch.{laid, told}
use Rattle.writing.specs.Plan.{lines_from}

-- numbered from n on: the first one's offsets are o, and they move by d
abbrev pub lines_in : ℕ → Next → ℕ → List ℤ → List ℤ → List ℕ
lines_in operands x n d o = lines_from n (laid (told operands x o d))
