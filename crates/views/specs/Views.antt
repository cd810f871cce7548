-- "Two readers of a block" (document 02, ask 10): the one record of a visit, and what each reader sees of it. "Both views come from one
-- record."
-- Assumes nothing.
use Rattle.std.specs.Prelude.{min, take}
use Rattle.strided.specs.Base.{padded}
use Rattle.strided.specs.declared.Block.{Block}
use Rattle.strided.specs.declared.Told.{Told}
use Rattle.views.specs.declared.Visit.{Visit}
use Rattle.views.specs.declared.Student.{Student}

-- "An export engineer sees a block as now."
abbrev pub engineer_of : Visit → Block
engineer_of v = v.block

-- an index as it is seen. A record may hold any numbers: places behind the count are 0 in what is handed out, and a count above 64 is read
-- as 64
abbrev pub first_seen : Told → Told
first_seen t = record { count = min t.count 64; index = padded 64 0 (take (min t.count 64) t.index) }

-- "A student sees its number as on B lines, its length and the original index of its first cell, and no offset or stride."
abbrev pub student_of : Visit → Student
student_of v = record { number = v.number; length = v.block.length; first = first_seen v.first }
