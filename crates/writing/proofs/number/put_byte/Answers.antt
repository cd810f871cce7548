-- `writing::number::put_byte` meets its contract: one element set is one byte put.
-- Assumes nothing.
use mathlib.Core.Path.{refl}
use Rattle.writing.specs.Putting.{put_one}
use Rattle.writing.proofs.number.put_byte.Goals as goal

pub returns : goal.returns
returns c = record { list = put_one _ _ _ c.requires; place = refl }
