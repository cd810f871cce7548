-- The table of byte strides that the code makes: the images of those of the plan's axes, 0 behind them. Assumes nothing.
use Rattle.std.specs.Prelude.{List, map, ℕ, ◌*◌, ℤ, get_or}
use Rattle.strided.specs.Base.{padded, over, run}
use Rattle.strided.specs.declared.Machine.{Machine}
use Rattle.laws.specs.Cut.Image.{image}
use Rattle.laws.specs.Cut.Tables.{stride_size}

-- operand k's byte stride on axis i, its row in 64 places, and the rows of the operands before m
abbrev pub byte_of : Machine → List ℕ → List ℤ → ℕ → ℕ → ℕ
byte_of mc sizes strides k i = image mc (stride_size strides k i * get_or sizes k 0)

abbrev pub byte_row : Machine → List ℕ → List ℤ → ℕ → ℕ → List ℕ
byte_row mc sizes strides rank k = padded 64 0 (map (byte_of mc sizes strides k) (run 0 rank))

unfoldable pub byte_rows : Machine → List ℕ → List ℤ → ℕ → ℕ → List ℕ
byte_rows mc sizes strides rank m = padded 512 0 (over (run 0 m) (byte_row mc sizes strides rank))
