-- `writing::line::put_block` meets its contract: its fields are those of a B line.
-- Assumes nothing.
use Rattle.writing.specs.Putting.{wrote_is}
use Rattle.writing.proofs.Lines.{line_room, block_is}
use Rattle.writing.proofs.line.put_block.Goals as goal

pub put_line-requires : goal.put_line-requires
put_line-requires c = line_room (block_is _ _ c.args.offsets.now) _ _ c.requires

pub returns : goal.returns
returns c = wrote_is c.put_line.ensures (block_is _ _ c.args.offsets.now)
