-- `numpy::rows::peak` meets its contract: each number read makes of the greatest stride of those before it the greatest with it.
-- Assumes nothing.
use mathlib.Core.Path.{refl}
use mathlib.Core.List.{List}
use Prim.Native.Nat.{ℕ}
use borrow.Author.Rules.{rules}
use Rattle.std.proofs.lemmas.Fn.{chained_keeps}
use Rattle.numpy.specs.Readers.{Peaked}
use Rattle.numpy.proofs.Peaks.{peaked_more}
use Rattle.numpy.proofs.rows.peak.Goals as goal

pub returns : goal.returns
returns c vs rest l r =
    let size = c.args.size in
    chained_keeps _ (λ (xs : List ℕ) (g : ℕ). Peaked size g xs) (λ xs g e m h q. peaked_more size g _ m xs e h refl (search rules)) vs 0 _ refl (c.fold_row.ensures vs rest l r)
