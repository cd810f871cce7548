-- `layout::negated` meets its contract: the numbers are small. Assumes nothing.
use mathlib.Core.Path.{◌≡◌, ap, ◌∙◌}
use Prim.Native.Nat.{ℕ, zero, suc, ◌≤◌, ◌<◌, ◌^◌}
use native.Mathlib.Omega.{arith}
use lib.IntN.{pos, neg_ℤ, ◌-ℤ◌, +ℤ_idl}
use lib.Signed.{mag}
use mir.Val.{SFits, to_z}
use mir.Syntax.{w64}
use mir.Facts.{to_z_pos, to_z-of_z}
use Rattle.strided.specs.Refusals.{number, negated}
use Rattle.strided.specs.declared.Refusal.{Refusal}
use Rattle.strided.specs.declared.Refusal.TheVariants.{Rank, Operands, StrideCount, Chosen, Total, Reach, StartCount, Offsets, State, Index, Form, TextTotal, Room, Window, CopySizes, Buffer, Repeats, ByteStrides, Ninth, Leaving, Slice, Visits, Record}
use Rattle.layout.proofs.negated.Goals as goal

number_small : (r : Refusal) → number r < 25
number_small Rank = omega arith
number_small Operands = omega arith
number_small StrideCount = omega arith
number_small Chosen = omega arith
number_small Total = omega arith
number_small Reach = omega arith
number_small StartCount = omega arith
number_small Offsets = omega arith
number_small State = omega arith
number_small Index = omega arith
number_small Form = omega arith
number_small TextTotal = omega arith
number_small Room = omega arith
number_small Window = omega arith
number_small CopySizes = omega arith
number_small Buffer = omega arith
number_small Repeats = omega arith
number_small ByteStrides = omega arith
number_small Ninth = omega arith
number_small Leaving = omega arith
number_small Slice = omega arith
number_small Visits = omega arith
number_small Record = omega arith

mag_less : (n : ℕ) → mag (neg_ℤ (pos n)) ≤ n
mag_less zero = omega arith
mag_less (suc n) = omega arith

negated_fits : (r : Refusal) → SFits w64 (negated r)
negated_fits r = record { sfits = omega (arith, mag_less (number r), number_small r) }

pub overflow_cast-result : goal.overflow_cast-result
overflow_cast-result c =
    let small : c.number.result < 2 ^ 63 = omega (arith, c.number.ensures, number_small c.args.refusal) in
    record { sfits = small }

pub overflow_sub-result : goal.overflow_sub-result
overflow_sub-result c =
    let small : c.number.result < 2 ^ 63 = omega (arith, c.number.ensures, number_small c.args.refusal) in
    let value : pos 0 -ℤ to_z w64 c.number.result ≡ negated c.args.refusal = +ℤ_idl _ ∙ ap neg_ℤ (to_z_pos w64 small ∙ ap pos c.number.ensures) in
    rw value (negated_fits c.args.refusal)

pub returns : goal.returns
returns c =
    let small : c.number.result < 2 ^ 63 = omega (arith, c.number.ensures, number_small c.args.refusal) in
    let value : pos 0 -ℤ to_z w64 c.number.result ≡ negated c.args.refusal = +ℤ_idl _ ∙ ap neg_ℤ (to_z_pos w64 small ∙ ap pos c.number.ensures) in
    to_z-of_z {w = w64} (rw value (negated_fits c.args.refusal)) ∙ value
