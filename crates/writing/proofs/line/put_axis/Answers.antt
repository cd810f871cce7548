-- `writing::line::put_axis` meets its contract: its fields are those of an A line.
-- Assumes nothing.
use Rattle.writing.specs.Putting.{wrote_is}
use Rattle.writing.proofs.Lines.{line_room, axis_is}
use Rattle.writing.proofs.line.put_axis.Goals as goal

pub put_line-requires : goal.put_line-requires
put_line-requires c = line_room (axis_is _ _ _ c.args.strides.now) _ _ c.requires

pub returns : goal.returns
returns c = wrote_is c.put_line.ensures (axis_is _ _ _ c.args.strides.now)
