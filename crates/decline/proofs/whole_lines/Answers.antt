-- `decline::whole_lines` meets its contract: the remainders of the factors give that of the product, and their product is small.
-- Assumes nothing.
use native.Mathlib.Nat.{mul-le-mul}
use native.Mathlib.Omega.{arith}
use mathlib.Core.Path.{◌≡◌, sym, subst}
use Prim.Native.Nat.{ℕ, ◌-◌, ◌%◌, ◌≤◌}
use lib.Bits.{bit_and, and_mask, and_le_r}
use Rattle.strided.specs.Machine.{Allowed}
use Rattle.strided.specs.declared.Machine.{Machine}
use Rattle.laws.specs.Cut.Elements.{mod_both}
use Rattle.decline.proofs.whole_lines.Goals as goal

-- the low bits are the remainder by the line, a power of two
rest_is : (mc : Machine) → Allowed mc → (n : ℕ) → bit_and n (mc.line - 1) ≡ n % mc.line
rest_is mc h n = subst (λ (l : ℕ). bit_and n (l - 1) ≡ n % l) (sym h.power.1) (and_mask n h.power.0)

pub overflow_mul-result : goal.overflow_mul-result
overflow_mul-result c = let a = c.args in
    let low : ℕ = a.machine.numbers.line - 1 in
    let p : bit_and a.n low ≤ 255 = omega (arith, and_le_r a.n low) in
    let q : bit_and a.size low ≤ 255 = omega (arith, and_le_r a.size low) in
    omega (arith, mul-le-mul p q)

pub returns : goal.returns
returns c = simp (rest_is c.args.machine.numbers c.args.machine.allowed, mod_both)
