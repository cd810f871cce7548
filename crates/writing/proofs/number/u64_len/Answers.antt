-- `writing::number::u64_len` meets its contract. Assumes nothing.
use native.Mathlib.Omega.{arith}
use Rattle.laws.specs.Text.Lengths.{length_small}
use Rattle.writing.proofs.Digits.{digits_counted}
use Rattle.writing.proofs.number.u64_len.Goals as goal

pub returns-then-n-eq0 : goal.returns-then-n-eq0
returns-then-n-eq0 c = let z = c.if-n-eq0.true in omega (arith, z, length_small c.args.n (omega (arith, z)))

pub returns : goal.returns
returns c = let k = c.ilog10.ensures in omega (arith, digits_counted c.ilog10.result c.args.n k.power_le k.next_power_gt)
