-- `views::number::tiles_under` meets its contract. Assumes nothing.
use mathlib.Core.Path.{ap, ◌∙◌}
use Prim.Native.Nat.{ℕ, ◌*◌}
use Rattle.views.proofs.Tallies.{tiles_ceil}
use Rattle.views.proofs.number.tiles_under.Goals as goal

pub overflow_mul-result : goal.overflow_mul-result
overflow_mul-result c =
    let e = c.div_ceil.ensures ∙ tiles_ceil c.args.extent c.args.width c.requires.width_nonzero.0 c.requires.width_nonzero.1 in
    record { fits = rw e c.requires.indices_bound }

pub returns : goal.returns
returns c =
    ap (λ (n : ℕ). n * c.args.indices) (c.div_ceil.ensures ∙ tiles_ceil c.args.extent c.args.width c.requires.width_nonzero.0 c.requires.width_nonzero.1)
