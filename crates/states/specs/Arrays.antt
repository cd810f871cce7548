-- Row 9 as Starts has it of a plan, told of slices: the extents, the strides of operand k from k * 64 on, and any number of operands.
-- Assumes nothing.
use Rattle.std.specs.Prelude.{◌≡◌, Bool, false, List, ℕ, ◌+◌, ◌*◌, ◌≤◌, ◌<◌, ℤ, pos, ◌-ℤ◌, length, get_or}
use Rattle.strided.specs.Layout.{Within, has_zero, dot, reach, max_i}
use Rattle.strided.specs.Refusals.{leaves, some_operand, row6}
use Rattle.layout.specs.Rows.{row_at}

-- operand k's start, told from its offset at the counters c
abbrev pub start_at : List ℕ → List ℤ → List ℕ → List ℤ → ℕ → ℤ
start_at es ss c os k = get_or os k (pos 0) -ℤ dot c (row_at es ss 64 k)

-- some offset from that start leaves 64-bit signed
unfoldable pub leaves_at : List ℕ → List ℤ → List ℕ → List ℤ → ℕ → Bool
leaves_at es ss c os k = leaves es (row_at es ss 64 k) (start_at es ss c os k)

-- row 9
unfoldable pub some_leave : List ℕ → List ℤ → List ℕ → List ℤ → ℕ → Bool
some_leave es ss c os operands = some_operand es (leaves_at es ss c os) operands

-- operand k
pub record StandsAt (es : List ℕ) (ss : List ℤ) (c : List ℕ) (os : List ℤ) (k : ℕ) : Type 0 where
  pub laid : k * 64 + length es ≤ length ss
  pub offsets : k < length os
  pub within : Within es c
  pub near : reach es (row_at es ss 64 k) ≤ max_i

-- the strides of all operands are there
pub record Laid (es : List ℕ) (ss : List ℤ) (operands : ℕ) : Type 0 where
  pub apart : length es ≤ 64
  pub all : operands * 64 ≤ length ss

-- all operands
pub record Standing (es : List ℕ) (ss : List ℤ) (c : List ℕ) (os : List ℤ) (operands : ℕ) : Type 0 where
  pub laid : Laid es ss operands
  pub offsets : operands ≤ length os
  pub within : Within es c
  pub near : (k : ℕ) → k < operands → reach es (row_at es ss 64 k) ≤ max_i

-- the same where row 6 has passed, and the counters are within unless an extent is 0
pub record Begins (es : List ℕ) (ss : List ℤ) (c : List ℕ) (os : List ℤ) (operands : ℕ) : Type 0 where
  pub laid : Laid es ss operands
  pub offsets : operands ≤ length os
  pub within : has_zero es ≡ false → Within es c
  pub near : (row6 es operands (row_at es ss 64)).applies ≡ false
