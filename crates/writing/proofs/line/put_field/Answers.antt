-- `writing::line::put_field` meets its contract: a comma and then the number.
-- Assumes nothing.
use native.Mathlib.Omega.{arith}
use Rattle.writing.specs.Putting.{wrote_then}
use Rattle.writing.proofs.line.put_field.Goals as goal

pub returns : goal.returns
returns g c = wrote_then c.put_byte-next.ensures c.put.ensures (omega arith)
