-- The fields of a line, the Z line of figures, and how long a line may be. Assumes nothing.
use Rattle.std.specs.Prelude.{List, ◌++◌, ℕ, ℤ}
use Rattle.strided.specs.Base.{over}
use Rattle.strided.specs.Text.{field, signed_field, line_of}

-- a field for each number, then one for each signed number
abbrev pub fields_of : List ℕ → List ℤ → List ℕ
fields_of ns zs = over ns field ++ over zs signed_field

-- "Z,blocks,cells"
abbrev pub figures_line : ℕ → ℕ → List ℕ
figures_line blocks cells = line_of 90 (field blocks ++ field cells)

-- no line of a plan is longer: a letter and LF, and a comma and 20 bytes for each of 3 numbers and 8 signed numbers
abbrev pub longest : ℕ
longest = 233
