-- The length of a number's text meets its contract: a number of 64 bits has 20 digits at most.
-- Assumes nothing.
use native.Mathlib.Omega.{arith}
use Rattle.laws.specs.Text.Lengths.{digits_most}
use Rattle.writing.proofs.number.U64Figure.text_len.Goals as goal

pub returns-clause-most : goal.returns-clause-most
returns-clause-most c = omega (arith, c.u64_len.ensures, digits_most _ c.ranges.self.fits)
