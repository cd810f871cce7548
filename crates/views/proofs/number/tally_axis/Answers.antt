-- `views::number::tally_axis` meets its contract. Assumes nothing.
use mathlib.Core.Path.{sym, ap, ◌∙◌}
use Prim.Native.Nat.{ℕ, ◌+◌, ◌-◌, ◌*◌}
use Rattle.strided.specs.Walk.{len_at}
use Rattle.views.specs.Tally.{tallied}
use Rattle.views.proofs.Tallies.{first_place, tallied_one, tallied_first}
use Rattle.views.proofs.number.tally_axis.Goals as goal

pub returns-then-width-eq1 : goal.returns-then-width-eq1
returns-then-width-eq1 c =
    let a = c.args in
    tallied_one a.extent a.at a.tally c.requires.below ∙ ap (λ (w : ℕ). tallied a.extent w a.at a.tally) (sym c.if-width-eq1.true)

pub overflow_add-result : goal.overflow_add-result
overflow_add-result c =
    let a = c.args in
    let e = ap (λ (n : ℕ). n * a.tally.place + a.at) c.min-len.ensures ∙ first_place a.extent a.width a.at a.tally.place c.if-at-width.true in
    record { fits = rw e c.requires.place }

pub returns-then-at-width : goal.returns-then-at-width
returns-then-at-width c =
    let a = c.args in
    ap (λ (n : ℕ). record { before = a.extent * a.tally.before; size = n * a.tally.size; place = n * a.tally.place + a.at }) c.min-len.ensures
    ∙ tallied_first a.extent a.width a.at a.tally c.if-at-width.true

pub returns : goal.returns
unfolding tallied
returns c =
    let sized = c.min-len-2.ensures ∙ ap (len_at c.args.extent c.args.width) c.tile_start-start.ensures in
    let a = c.args in
    λ i. record { before = a.extent * a.tally.before + c.tile_start-start.ensures i * a.tally.size; size = sized i * a.tally.size; place = sized i * a.tally.place + (a.at - c.tile_start-start.ensures i) }
