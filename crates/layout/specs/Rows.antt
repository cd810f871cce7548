-- Where the operands' strides stand: one after the other, or `pitch` places apart in a plan. Assumes nothing.
use Rattle.std.specs.Prelude.{Bool, List, ℕ, ◌*◌, ltb, ℤ, length, take, drop}
use Rattle.strided.specs.Layout.{reach, max_i}

-- operand k's strides, one for each extent. With the rank as pitch it is strided's stride_row, with 64 its plan_row
abbrev pub row_at : List ℕ → List ℤ → ℕ → ℕ → List ℤ
row_at es ss pitch k = take (length es) (drop (k * pitch) ss)

-- the test that row 6 makes of operand k, whose strides are `row k`
abbrev pub far_at : List ℕ → (ℕ → List ℤ) → ℕ → Bool
far_at es row k = ltb max_i (reach es (row k))
