-- `layout::rows::strides_wrong` meets its contract. The product of counts that rows 1 and 2 let through is small. Assumes nothing.
use Prim.Native.Nat.{ℕ, ◌*◌, ◌^◌, ◌≤◌, ◌<◌}
use native.Mathlib.Nat.{mul-le-mul_right}
use native.Mathlib.Omega.{arith}
use Rattle.layout.proofs.rows.strides_wrong.Goals as goal

few : (rank operands : ℕ) → rank ≤ 64 → operands ≤ 8 → rank * operands < 2 ^ 64
few rank operands h g =
    let m : rank * operands ≤ 64 * operands = mul-le-mul_right operands h in
    omega arith

pub overflow_mul-result : goal.overflow_mul-result
overflow_mul-result c = record { fits = few _ _ c.requires.0 c.requires.1 }
