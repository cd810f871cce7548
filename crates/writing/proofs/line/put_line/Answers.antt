-- `writing::line::put_line` meets its contract: the line's length is that of its parts, so each part has room, and the parts in a row are the
-- line.
-- Assumes nothing.
use native.Mathlib.Omega.{arith}
use mathlib.Core.Path.{sym}
use Rattle.writing.proofs.Lines.{line_parts, line_length}
use Rattle.writing.specs.Putting.{wrote_then, wrote_is}
use Rattle.writing.proofs.line.put_line.Goals as goal

pub returns : goal.returns
returns c =
    let a = c.args in
    let l = line_length a.letter a.numbers.now a.signed.now in
    let behind = wrote_then c.put_fields-c.ensures c.put_byte.ensures (omega arith) in
    wrote_is
    (wrote_then c.put_byte-a.ensures (wrote_then c.put_fields-b.ensures behind (omega arith)) (omega arith))
    (sym (line_parts a.letter a.numbers.now a.signed.now))
