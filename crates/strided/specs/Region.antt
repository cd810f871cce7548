-- "The plan": byte strides and regions, over the plan's own arrays: 64 places for the axes, and in a flat table 64 for each operand. The
-- record's line stands for document 01's 64 bytes.
-- Assumes nothing.
use Rattle.std.specs.Prelude.{cond, List, [], ◌∷◌, ◌++◌, map, ℕ, ◌+◌, ◌-◌, ◌*◌, ◌/◌, get_or, take, drop, ltb, ℤ, nat_abs}
use Rattle.strided.specs.Base.{sum, product}
use Rattle.strided.specs.declared.Machine.{Machine}

-- "A byte stride is stride size × element size, never negative.": the table of all operands
abbrev pub byte_table : List ℕ → List ℤ → List ℕ
byte_table [] strides = []
byte_table (z ∷ sizes) strides = map (λ t. nat_abs t * z) (take 64 strides) ++ byte_table sizes (drop 64 strides)

-- operand k's byte stride on axis i
abbrev pub byte_at : List ℕ → ℕ → ℕ → ℕ
byte_at bytes k i = get_or bytes (k * 64 + i) 0

-- "C sums (extent − 1) × byte stride over axes whose byte stride is below 64; M is the product of the other extents.": what axis i adds to
-- operand k's C, and what it is in its M, where b holds the extents or block sizes
abbrev pub near : Machine → List ℕ → List ℕ → ℕ → ℕ → ℕ
near mc bytes b k i = cond (ltb (byte_at bytes k i) mc.line) (byte_at bytes k i * (get_or b i 0 - 1)) 0

abbrev pub far : Machine → List ℕ → List ℕ → ℕ → ℕ → ℕ
far mc bytes b k i = cond (ltb (byte_at bytes k i) mc.line) 1 (get_or b i 0)

-- "Region of an operand: 64 × (floor(C / 64) + 1) × M", over the n axes from o on
unfoldable pub region_of : Machine → List ℕ → List ℕ → ℕ → ℕ → ℕ → ℕ
region_of mc bytes b o n k = mc.line * (sum (near mc bytes b k) o n / mc.line + 1) * product (far mc bytes b k) o n

-- "Regions add over operands."
unfoldable pub region : Machine → List ℕ → ℕ → List ℕ → ℕ → ℕ → ℕ
region mc bytes operands b o n = sum (region_of mc bytes b o n) 0 operands
