-- A plan in lent arrays: the zeros that it is made in, and what the arrays hold when it is made. Assumes nothing.
use Rattle.std.specs.Prelude.{◌≡◌, List, ℕ, ℤ, pos, length, replicate}
use Rattle.strided.specs.Fuse.{plan_axes}
use Rattle.strided.specs.Plan.{plan_from}
use Rattle.strided.specs.declared.Purpose.{Purpose}
use Rattle.strided.specs.declared.Plan.{Plan}
use Rattle.strided.specs.declared.Machine.{Machine}

pub record Zeros (E : List ℕ) (S : List ℤ) : Type 0 where
  pub extents : E ≡ replicate 64 0
  pub strides : S ≡ replicate 512 (pos 0)

-- the plan of the layout for the purpose has this rank, and its extents, blocks and strides are in the arrays E, B and S
pub record Made (mc : Machine) (es sizes : List ℕ) (ss : List ℤ) (u : Purpose) (rank : ℕ) (E B : List ℕ) (S : List ℤ) : Type 0 where
  pub is : ◌≡◌ {A = Plan} (record { rank = rank; operands = length sizes; extents = E; blocks = B; strides = S })
      (plan_from mc es sizes (plan_axes es (length sizes) ss u) u)
