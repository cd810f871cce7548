-- States of which no number is large: no offset of a walk leaves 64-bit signed. Assumes nothing.
use Rattle.std.specs.Prelude.{◌≡◌, true, List, ℕ, ◌^◌, ◌<◌, ℤ, nat_abs}
use Rattle.strided.specs.Begin.{plan_extents, plan_row}
use Rattle.strided.specs.declared.Plan.{Plan}
use Rattle.layout.specs.Near.{all_below}

-- the strides of every operand
abbrev pub RowsNear : Plan → Type 0
RowsNear p = (k : ℕ) → k < p.operands → all_below nat_abs (2 ^ 40) (plan_row p k) ≡ true

-- a plan's extents and strides, and offsets
pub record Near (p : Plan) (os : List ℤ) : Type 0 where
  pub extents : all_below (λ n. n) (2 ^ 16) (plan_extents p) ≡ true
  pub strides : RowsNear p
  pub offsets : all_below nat_abs (2 ^ 62) os ≡ true
