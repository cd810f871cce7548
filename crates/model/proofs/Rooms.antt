-- What row 6 gives on the plan's axes: scores fit 64 bits. Assumes nothing.
use mathlib.Core.Path.{subst⁻¹}
use mathlib.Core.List.{List}
use Prim.Native.Nat.{ℕ, ◌-◌, ◌*◌, ◌^◌, ◌<◌}
use lib.IntN.{ℤ}
use lib.ListN.{length, get_or}
use Rattle.strided.specs.Costs.{costs}
use Rattle.strided.specs.declared.Purpose.{Purpose}
use Rattle.laws.specs.Cut.Same.{SameCosts}
use Rattle.laws.specs.Cut.Steps.{ScoresFit}
use Rattle.laws.specs.Cut.Tables.{scores_fit}
use Rattle.model.specs.Plannable.{Plannable}

module _ (sizes es : List ℕ) (strides : List ℤ) (rank : ℕ) (u : Purpose) (p : Plannable sizes es strides rank u) where
  pub scores : (cs : List ℕ) → SameCosts rank cs (costs strides (length sizes) rank) → ScoresFit rank cs es
  scores cs same i h =
      subst⁻¹ (λ (c : ℕ). (get_or es i 0 - 1) * c < 2 ^ 64) (same i h)
      (scores_fit es strides (length sizes) rank p.one p.small p.near i h)
