-- `numpy::back::put_text` meets its contract: the three lines in a row are the text.
-- Assumes nothing.
use mathlib.Core.Path.{refl, sym}
use Rattle.writing.proofs.Taking.{taking_start, taking_may, taking_next, taking_full, taking_last_may, taking_last}
use Rattle.numpy.proofs.Spelling.{head_of, shape_of, bytes_of, spelled_parts}
use Rattle.numpy.proofs.back.put_text.Goals as goal

pub take-requires : goal.take-requires
take-requires g c =
    let k = g.S.Sink in
    let a = c.args.said in
    let start = taking_start k.May k.Took k.Full g.met.S.Sink.laws _ _ _ c.requires in
    taking_may k.May k.Took k.Full g.met.S.Sink.laws _ _ _ _ _ _ start (head_of a.size a.shape.now) _ (sym (spelled_parts a.size a.shape.now a.bytes.now))

pub returns-in_err-a : goal.returns-in_err-a
returns-in_err-a g c =
    let k = g.S.Sink in
    let a = c.args.said in
    let start = taking_start k.May k.Took k.Full g.met.S.Sink.laws _ _ _ c.requires in
    rw c.from_residual.ensures (taking_full k.May k.Took k.Full g.met.S.Sink.laws _ _ _ _ _ _ start (head_of a.size a.shape.now) _ (sym (spelled_parts a.size a.shape.now a.bytes.now)) c.in_err-a.ensures)

pub take-requires-2 : goal.take-requires-2
take-requires-2 g c =
    let k = g.S.Sink in
    let a = c.args.said in
    let start = taking_start k.May k.Took k.Full g.met.S.Sink.laws _ _ _ c.requires in
    let behind = taking_next k.May k.Took k.Full g.met.S.Sink.laws _ _ _ _ _ _ start (head_of a.size a.shape.now) _ (sym (spelled_parts a.size a.shape.now a.bytes.now)) c.in_ok-a.ensures in
    taking_may k.May k.Took k.Full g.met.S.Sink.laws _ _ _ _ _ _ behind (shape_of a.shape.now) (bytes_of a.bytes.now) refl

pub returns-in_err-b : goal.returns-in_err-b
returns-in_err-b g c =
    let k = g.S.Sink in
    let a = c.args.said in
    let start = taking_start k.May k.Took k.Full g.met.S.Sink.laws _ _ _ c.requires in
    let behind = taking_next k.May k.Took k.Full g.met.S.Sink.laws _ _ _ _ _ _ start (head_of a.size a.shape.now) _ (sym (spelled_parts a.size a.shape.now a.bytes.now)) c.in_ok-a.ensures in
    rw c.from_residual-in_err-b.ensures (taking_full k.May k.Took k.Full g.met.S.Sink.laws _ _ _ _ _ _ behind (shape_of a.shape.now) (bytes_of a.bytes.now) refl c.in_err-b.ensures)

pub take-requires-3 : goal.take-requires-3
take-requires-3 g c =
    let k = g.S.Sink in
    let a = c.args.said in
    let start = taking_start k.May k.Took k.Full g.met.S.Sink.laws _ _ _ c.requires in
    let behind = taking_next k.May k.Took k.Full g.met.S.Sink.laws _ _ _ _ _ _ start (head_of a.size a.shape.now) _ (sym (spelled_parts a.size a.shape.now a.bytes.now)) c.in_ok-a.ensures in
    let left = taking_next k.May k.Took k.Full g.met.S.Sink.laws _ _ _ _ _ _ behind (shape_of a.shape.now) (bytes_of a.bytes.now) refl c.in_ok-b.ensures in
    taking_last_may k.May k.Took k.Full g.met.S.Sink.laws _ _ _ _ _ _ left (bytes_of a.bytes.now) refl

pub returns : goal.returns
returns g c =
    let k = g.S.Sink in
    let a = c.args.said in
    let start = taking_start k.May k.Took k.Full g.met.S.Sink.laws _ _ _ c.requires in
    let behind = taking_next k.May k.Took k.Full g.met.S.Sink.laws _ _ _ _ _ _ start (head_of a.size a.shape.now) _ (sym (spelled_parts a.size a.shape.now a.bytes.now)) c.in_ok-a.ensures in
    let left = taking_next k.May k.Took k.Full g.met.S.Sink.laws _ _ _ _ _ _ behind (shape_of a.shape.now) (bytes_of a.bytes.now) refl c.in_ok-b.ensures in
    taking_last k.May k.Took k.Full g.met.S.Sink.laws _ _ _ _ _ _ left (bytes_of a.bytes.now) refl _ _ c.take-3.ensures
