-- `numpy::from_packed` meets its contract: rows 19 and 1, then the shape reversed and the strides that packed means.
-- Assumes nothing.
use mathlib.Core.Path.{◌≡◌, sym, ap, ◌∙◌, subst}
use mathlib.Core.List.{List, ◌++◌, [], map}
use Rattle.std.specs.Prelude.{None}
use Prim.Native.Nat.{ℕ, ◌≤◌}
use native.Mathlib.Omega.{arith}
use lib.IntN.{pos}
use lib.ListN.{length, take, drop, length-take}
use lib.Seq.{take_at}
use Rattle.strided.specs.Base.{padded}
use Rattle.laws.specs.Refusals.Rows.{few-axes}
use Rattle.numpy.specs.Numpy.{reversed}
use Rattle.numpy.specs.Packed.{packed_strides}
use Rattle.numpy.specs.Readers.{saying}
use Rattle.numpy.specs.Reversing.{length-reversed, reverse-reversed}
use Rattle.numpy.specs.Units.{firsts, Near}
use Rattle.numpy.proofs.Telling.{front_turned, take-padded, told_19, told_1, told-all, some_size, packed-near}
use Rattle.numpy.proofs.from_packed.Goals as goal

pub returns-then-packed_wrong : goal.returns-then-packed_wrong
returns-then-packed_wrong c = λ vs rest l r laid.
    let a = c.args in
    told_19 (saying a.size a.rank vs None) (sym (c.packed_wrong.ensures vs rest l r) ∙ c.if-packed_wrong.true)

pub returns-then-rank_over : goal.returns-then-rank_over
returns-then-rank_over c = λ vs rest l r laid.
    let a = c.args in
    told_1 (saying a.size a.rank vs None) (sym (c.packed_wrong.ensures vs rest l r) ∙ c.if-packed_wrong.false) (sym c.rank_over.ensures ∙ c.if-rank_over.true)

pub packed_strides_into-requires-clause-near : goal.packed_strides_into-requires-clause-near
packed_strides_into-requires-clause-near c =
    let a = c.args in
    let n = c.requires.shape in
    let few : a.rank ≤ 64 = few-axes _ c.rank_over.ensures c.if-rank_over.false in
    let made : c.reverse.new.self ≡ reversed n.es = c.reverse.ensures.after ∙ reverse-reversed (take a.rank a.extents.now) ∙ ap reversed (n.laid few) in
    let w = some_size a.size _ (sym (c.packed_wrong.ensures n.es [] n.count n.row) ∙ c.if-packed_wrong.false) in
    let l : length (reversed n.es) ≡ a.rank = length-reversed n.es ∙ n.count in
    let m : take a.rank (c.reverse.new.self ++ drop a.rank a.extents.now) ≡ reversed n.es = rw made (take_at (reversed n.es) (drop a.rank a.extents.now) a.rank l) in
    (omega (arith, few, length-take a.rank (c.reverse.new.self ++ drop a.rank a.extents.now)), subst Near (sym m) (packed-near a.size n.es w.0 w.1))

pub returns : goal.returns
returns c = λ vs rest l r laid.
    let a = c.args in
    let few : a.rank ≤ 64 = few-axes _ c.rank_over.ensures c.if-rank_over.false in
    let made : c.reverse.new.self ≡ reversed vs = c.reverse.ensures.after ∙ reverse-reversed (take a.rank a.extents.now) ∙ ap reversed (laid few) in
    let e : length (reversed vs) ≡ a.rank = length-reversed vs ∙ l in
    let turned : c.reverse.new.self ++ drop a.rank a.extents.now ≡ padded 64 0 (reversed vs) = front_turned 0 a.extents.now c.reverse.new.self (reversed vs) a.rank made e few (c.requires.zeros.0 few) in
    let y = some_size a.size _ (sym (c.packed_wrong.ensures vs rest l r) ∙ c.if-packed_wrong.false) in
    told-all (saying a.size a.rank vs None) (sym (c.packed_wrong.ensures vs rest l r) ∙ c.if-packed_wrong.false) (sym c.rank_over.ensures ∙ c.if-rank_over.false)
    turned
    (c.packed_strides_into.ensures ∙ ap (λ (u : List ℕ). padded 64 (pos 0) (map pos (firsts 1 u))) (ap (take a.rank) turned ∙ take-padded 0 (reversed vs) a.rank e few)
    ∙ ap (padded 64 (pos 0)) (sym (packed_strides a.size a.rank vs y.0)))
