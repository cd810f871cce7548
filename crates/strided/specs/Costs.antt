-- "The plan": the cost of an axis, by which cutting weighs the blocks. It goes by element strides, regions go by byte strides.
-- Assumes nothing.
use Rattle.std.specs.Prelude.{Bool, cond, List, map, ℕ, ◌+◌, ◌*◌, ◌-◌, ◌^◌, min, eqb, ℤ, pos, nat_abs, get_or, Option, None, Some}
use Rattle.strided.specs.Base.{run, least, every}

-- "An axis on which every stride is 0 ..": nobody moves along it; size gives each operand's stride size there. An operand of size 0 moves like
-- any other
unfoldable pub still : (ℕ → ℕ) → ℕ → Bool
still size operands = every (λ k. eqb (size k) 0) 0 operands

-- "The cost of such an axis shall say that it has none", "Cost is 1 if some operand's stride is 0, else twice the least stride size, at most
-- 2^63 − 1.": the least stride size is 0 if some stride is 0
unfoldable pub cost_of : (ℕ → ℕ) → ℕ → Option ℕ
cost_of size operands =
    let m : ℕ = least size 0 operands in
    cond (still size operands) None (Some (cond (eqb m 0) 1 (min (2 * m) (2 ^ 63 - 1))))

-- a cost in an array: 0 says none, and no other cost is 0 (crate laws)
abbrev pub cost_number : Option ℕ → ℕ
cost_number None = 0
cost_number (Some c) = c

-- the costs of the plan's axes, as arrays hold them; operand k's stride on axis i stands at k * 64 + i
unfoldable pub costs : List ℤ → ℕ → ℕ → List ℕ
costs strides operands rank = map (λ i. cost_number (cost_of (λ k. nat_abs (get_or strides (k * 64 + i) (pos 0))) operands)) (run 0 rank)
