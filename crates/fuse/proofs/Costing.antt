-- How many costs there are. Assumes nothing.
use mathlib.Core.Path.{◌≡◌, ◌∙◌}
use mathlib.Core.List.{List}
use Prim.Native.Nat.{ℕ}
use lib.IntN.{ℤ}
use lib.ListN.{length, length-map}
use Rattle.strided.specs.Base.{run}
use Rattle.strided.specs.Costs.{cost_of, cost_number, costs}
use Rattle.laws.specs.Base.Lists.{length_run}
use Rattle.fuse.specs.Sizes.{size_at}

pub length-costs : (ss : List ℤ) (m n : ℕ) → length (costs ss m n) ≡ n
unfolding costs
length-costs ss m n = length-map (run 0 n) (λ i. cost_number (cost_of (size_at ss 64 i) m)) ∙ length_run 0 n
