-- `writing::line::put_rank` meets its contract: its fields are those of a K line.
-- Assumes nothing.
use Rattle.writing.specs.Putting.{wrote_is}
use Rattle.writing.proofs.Lines.{line_room, rank_is}
use Rattle.writing.proofs.line.put_rank.Goals as goal

pub put_line-requires : goal.put_line-requires
put_line-requires c = line_room (rank_is _) _ _ c.requires

pub returns : goal.returns
returns c = wrote_is c.put_line.ensures (rank_is _)
