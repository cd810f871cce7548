-- `writing::number::i64_len` meets its contract: the digits of the size, and one byte for the sign.
-- Assumes nothing.
use native.Mathlib.Omega.{arith}
use mathlib.Core.Path.{◌≡◌, ap}
use Prim.Native.Nat.{◌+◌}
use lib.ListN.{length}
use Rattle.strided.specs.Digits.{signed_of}
use Rattle.laws.specs.Text.Lengths.{signed-most}
use Rattle.writing.proofs.Sign.{signed-neg}
use Rattle.writing.proofs.number.i64_len.Goals as goal

pub overflow_add-result : goal.overflow_add-result
overflow_add-result c =
    -- below 0 there is the sign besides
    let below : length (signed_of c.args.z) ≡ c.u64_len-k.result + 1 = let e = ap length (signed-neg c.args.z c.ranges.z c.unsigned_abs.ensures.value c.if-z-lt0.true) in
    omega arith in
    let z = c.args.z in
    omega (arith, below, signed-most z c.ranges.z.sfits)
