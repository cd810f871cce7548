-- `writing::number::put_i64` meets its contract: the sign, if there is one, and the digits of the size.
-- Assumes nothing.
use native.Mathlib.Omega.{arith}
use mathlib.Core.Path.{sym, ap}
use lib.ListN.{length}
use Rattle.writing.specs.Putting.{wrote_then, wrote_is}
use Rattle.writing.proofs.Sign.{signed-neg}
use Rattle.writing.proofs.number.put_i64.Goals as goal

pub returns-then-z-lt0 : goal.returns-then-z-lt0
returns-then-z-lt0 c =
    let e = signed-neg c.args.z c.ranges.z c.unsigned_abs.ensures.value c.if-z-lt0.true in
    let l = ap length e in
    wrote_is (wrote_then c.put_byte-next.ensures c.put_u64.ensures (omega arith)) (sym e)
