-- The length of a signed number's text meets its contract: a signed number of 64 bits takes 20 bytes at most.
-- Assumes nothing.
use native.Mathlib.Omega.{arith}
use mir.Syntax.{w64}
use mir.Facts.{to_z-of_z}
use Rattle.laws.specs.Text.Lengths.{signed-most}
use Rattle.writing.proofs.number.I64Figure.text_len.Goals as goal

pub returns-clause-most : goal.returns-clause-most
returns-clause-most c =
    omega (arith, rw (to_z-of_z {w = w64} c.ranges.self) at c.i64_len.ensures, signed-most c.args.self c.ranges.self.sfits)
