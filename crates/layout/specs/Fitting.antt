-- What rows 1 to 3 let through of a layout: few axes and operands, and a stride for each axis and operand.
-- Assumes nothing.
use Rattle.std.specs.Prelude.{◌≡◌, List, ℕ, ◌*◌, ◌≤◌, ℤ, length}

pub record Fitting (ss : List ℤ) (rank operands : ℕ) : Type 0 where
  pub rank-few : rank ≤ 64
  pub operands_few : operands ≤ 8
  pub strides_all : length ss ≡ rank * operands
