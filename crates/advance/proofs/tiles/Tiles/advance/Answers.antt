-- `advance::tiles::Tiles::advance` meets its contract. Assumes nothing.
use Rattle.advance.proofs.Turns.{inside_done, tile_done}
use Rattle.advance.proofs.tiles.Tiles.advance.Goals as goal

pub returns-then-carry : goal.returns-then-carry
returns-then-carry c = rw c.if-carry.true (inside_done c.requires.single c.carry.ensures c.if-carry.true)

pub returns-else-carry : goal.returns-else-carry
returns-else-carry c = tile_done c.requires.single c.carry.ensures c.if-carry.false c.carry-else-carry.ensures
