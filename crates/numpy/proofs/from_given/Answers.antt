-- `numpy::from_given` meets its contract: rows 19 and 1, then shape and byte strides reversed, these in elements.
-- Assumes nothing.
use mathlib.Core.Path.{sym, ap, ◌∙◌}
use mathlib.Core.List.{List, [], map}
use Rattle.std.specs.Prelude.{Some}
use Prim.Native.Nat.{◌≤◌}
use lib.IntN.{ℤ, pos}
use lib.ListN.{take}
use Rattle.laws.specs.Refusals.Rows.{few-axes}
use Rattle.numpy.specs.Numpy.{reversed, element_stride}
use Rattle.numpy.specs.Readers.{saying}
use Rattle.numpy.specs.Reversing.{length-reversed, reverse-reversed}
use Rattle.numpy.proofs.Fills.{turned-length}
use Rattle.numpy.proofs.Telling.{front_turned, told_19, told_1, told-all, some_size}
use Rattle.numpy.proofs.from_given.Goals as goal

pub returns-then-given_wrong : goal.returns-then-given_wrong
returns-then-given_wrong c = λ vs rest l r es m laid laid₂.
    let a = c.args in
    told_19 (saying a.size a.rank es (Some vs)) (sym (c.given_wrong.ensures vs rest l r) ∙ c.if-given_wrong.true)

pub returns-then-rank_over : goal.returns-then-rank_over
returns-then-rank_over c = λ vs rest l r es m laid laid₂.
    let a = c.args in
    told_1 (saying a.size a.rank es (Some vs)) (sym (c.given_wrong.ensures vs rest l r) ∙ c.if-given_wrong.false) (sym c.rank_over.ensures ∙ c.if-rank_over.true)

pub invariant_of-unit : goal.invariant_of-unit
invariant_of-unit c =
    let n = c.requires.strides in
    record { some = (some_size c.args.size _ (sym (c.given_wrong.ensures n.ts [] n.count n.row) ∙ c.if-given_wrong.false)).0 }

pub returns : goal.returns
returns c = λ vs rest l r es m laid laid₂.
    let a = c.args in
    let few : a.rank ≤ 64 = few-axes _ c.rank_over.ensures c.if-rank_over.false in
    told-all (saying a.size a.rank es (Some vs)) (sym (c.given_wrong.ensures vs rest l r) ∙ c.if-given_wrong.false) (sym c.rank_over.ensures ∙ c.if-rank_over.false)
    (front_turned 0 a.extents.now c.reverse.new.self (reversed es) a.rank
    (c.reverse.ensures.after ∙ reverse-reversed (take a.rank a.extents.now) ∙ ap reversed (laid few)) (length-reversed es ∙ m) few (c.requires.zeros.0 few))
    (front_turned (pos 0) a.strides.now c.turn_to_elements.new.strides (reversed (map (element_stride a.size) vs)) a.rank
    (c.turn_to_elements.ensures ∙ ap (λ (u : List ℤ). reversed (map (element_stride a.size) u)) (laid₂ few)) (turned-length (element_stride a.size) vs ∙ l) few (c.requires.zeros.1 few))
