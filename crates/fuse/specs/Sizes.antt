-- The size of an axis's strides, operand by operand. Assumes nothing.
use Rattle.std.specs.Prelude.{List, ℕ, ◌+◌, ◌*◌, ℤ, pos, nat_abs, get_or}

-- the size of operand k's stride on axis i
abbrev pub size_at : List ℤ → ℕ → ℕ → ℕ → ℕ
size_at ss pitch i k = nat_abs (get_or ss (k * pitch + i) (pos 0))
