-- `fuse::cost_at` meets its contract. Assumes nothing.
use Rattle.std.specs.Prelude.{Option, None, Some}
use Rattle.std.specs.Option.{unwrap_or}
use mathlib.Core.Path.{◌≡◌, refl, ap, ◌∙◌}
use Prim.Native.Nat.{ℕ}
use Rattle.strided.specs.Costs.{cost_number}
use Rattle.fuse.proofs.cost_at.Goals as goal

told : (o : Option ℕ) → unwrap_or o 0 ≡ cost_number o
told None = refl
told (Some n) = refl

pub returns : goal.returns
returns c = c.unwrap_or.ensures ∙ told c.cost.result ∙ ap cost_number c.cost.ensures
