-- `views::number::number_first` meets its contract. Assumes nothing.
use mathlib.Core.Path.{ap, ◌∙◌}
use Prim.Native.Nat.{ℕ, ◌+◌, ◌-◌, ◌*◌, ◌/◌}
use Rattle.views.specs.Tally.{numbered}
use Rattle.views.proofs.number.number_first.Goals as goal

pub returns : goal.returns
unfolding numbered
returns c =
    let under = c.tiles_under-before in
    let tile = c.quotient in
    let a = c.args in
    let t = a.tally in
    ap (λ (n : ℕ). n + tile.result * t.size + t.place) under.ensures
    ∙ ap (λ (n : ℕ). ((a.extent - 1) / a.width + 1) * t.before + n * t.size + t.place) tile.ensures
