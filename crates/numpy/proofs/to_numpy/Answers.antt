-- `numpy::to_numpy` meets its contract: rows 19, 1 and 3, then the text of the numbers reversed, the strides in bytes.
-- Assumes nothing.
use mathlib.Core.Path.{◌≡◌, sym, ap, ◌∙◌}
use mathlib.Core.List.{map}
use Prim.Native.Nat.{◌≤◌}
use lib.IntN.{pos}
use lib.ListN.{length, take}
use Rattle.laws.specs.Refusals.Rows.{few-axes}
use Rattle.numpy.specs.Numpy.{reversed, byte_stride}
use Rattle.numpy.specs.Readers.{spelled}
use Rattle.numpy.specs.Reversing.{length-reversed}
use Rattle.numpy.proofs.Fills.{turned-length}
use Rattle.numpy.proofs.Spelling.{Listed}
use Rattle.numpy.proofs.Telling.{take-padded, back_19, back_1, back_3, back_text, stride_count}
use Rattle.numpy.proofs.to_numpy.Goals as goal

pub returns-then-strides_out : goal.returns-then-strides_out
returns-then-strides_out c =
    let a = c.args in
    back_19 a.size a.extents.now a.strides.now a.room.now (sym c.strides_out.ensures ∙ c.if-strides_out.true)

pub returns-then-rank_over : goal.returns-then-rank_over
returns-then-rank_over c =
    let a = c.args in
    back_1 a.size a.extents.now a.strides.now a.room.now (sym c.strides_out.ensures ∙ c.if-strides_out.false) (sym c.rank_over.ensures ∙ c.if-rank_over.true)

pub returns-then-strides_wrong : goal.returns-then-strides_wrong
returns-then-strides_wrong c =
    let a = c.args in
    back_3 a.size a.extents.now a.strides.now a.room.now (sym c.strides_out.ensures ∙ c.if-strides_out.false) (sym c.rank_over.ensures ∙ c.if-rank_over.false)
    (sym c.strides_wrong.ensures ∙ c.if-strides_wrong.true)

pub returns : goal.returns
returns c =
    let a = c.args in
    let es = a.extents.now in
    let ss = a.strides.now in
    let few : length es ≤ 64 = few-axes _ c.rank_over.ensures c.if-rank_over.false in
    let count : length ss ≡ length es = stride_count a.size es ss a.room.now (sym c.strides_wrong.ensures ∙ c.if-strides_wrong.false) in
    -- the arrays that were made
    let shape_is : take (length es) c.reversed-shape.result ≡ reversed es =
    ap (take (length es)) c.reversed-shape.ensures ∙ take-padded 0 (reversed es) (length es) (length-reversed es) few in
    let bytes-is : take (length es) c.byte_strides-bytes.result ≡ reversed (map (byte_stride a.size) ss) =
    ap (take (length es)) c.byte_strides-bytes.ensures
    ∙ take-padded (pos 0) (reversed (map (byte_stride a.size) ss)) (length es) (turned-length (byte_stride a.size) ss ∙ count) few in
    c.list.ensures
    ∙ (λ i. Listed (spelled a.size (shape_is i) (bytes-is i)) a.room.now)
    ∙ back_text a.size es ss a.room.now (sym c.strides_out.ensures ∙ c.if-strides_out.false) (sym c.rank_over.ensures ∙ c.if-rank_over.false)
    (sym c.strides_wrong.ensures ∙ c.if-strides_wrong.false)
