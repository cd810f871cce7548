-- `writing::line::put_end` meets its contract: its fields are those of a Z line.
-- Assumes nothing.
use Rattle.writing.specs.Putting.{wrote_is}
use Rattle.writing.proofs.Lines.{line_room, figures_is}
use Rattle.writing.proofs.line.put_end.Goals as goal

pub put_line-requires : goal.put_line-requires
put_line-requires c = line_room (figures_is _ _) _ _ c.requires

pub returns : goal.returns
returns c = wrote_is c.put_line.ensures (figures_is _ _)
