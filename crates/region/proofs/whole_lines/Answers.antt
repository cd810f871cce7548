-- `region::whole_lines` meets its contract: a line is a power of two, whose zeros are its exponent (laws, Base/Bits), and no bit is shifted out.
-- Assumes nothing.
use native.Mathlib.Omega.{arith}
use native.Mathlib.Nat.{div-le_self, div-mul-le_self, mod-eq_of_lt}
use Prim.Native.Nat.{◌^◌, ◌<◌}
use Rattle.strided.specs.declared.Machine.{Machine}
use Rattle.strided.specs.Machine.{Allowed}
use mathlib.Core.Path.{◌≡◌}
use lib.Count.{count_trailing_zeros}
use Rattle.laws.specs.Base.Bits.{power_zeros}
use Rattle.region.proofs.whole_lines.Goals as goal

-- the shift, and that it is by the line
shift : {mc : Machine} → Allowed mc → (count_trailing_zeros 64 mc.line < 64) × (2 ^ count_trailing_zeros 64 mc.line ≡ mc.line)
shift {mc = mc} t = power_zeros 64 mc.line t.power (omega (arith, t.line_to))

pub overflow_cast-result : goal.overflow_cast-result
overflow_cast-result c = record { fits = omega (arith, (shift c.args.machine.allowed).0) }

pub overflow_shr-result : goal.overflow_shr-result
overflow_shr-result c = (shift c.args.machine.allowed).0

pub overflow_add-result : goal.overflow_add-result
overflow_add-result c = record { fits = omega (arith, div-le_self c.args.c (2 ^ count_trailing_zeros 64 c.args.machine.numbers.line)) }

pub overflow_cast-result-2 : goal.overflow_cast-result-2
overflow_cast-result-2 c = record { fits = omega (arith, (shift c.args.machine.allowed).0) }

pub overflow_shl-result : goal.overflow_shl-result
overflow_shl-result c = (shift c.args.machine.allowed).0

pub returns : goal.returns
returns c =
    let a = c.args in
    rw ((shift a.machine.allowed).1) (mod-eq_of_lt (omega (arith, div-mul-le_self a.c a.machine.numbers.line)))
