-- What index finding's code leans on: the order of fusing names axes that there are and keeps the total, and an index in range stays in
-- range in any order. Assumes nothing.
use Rattle.std.specs.Prelude.{◌≡◌, List, [], ◌∷◌, ℕ, ℤ, length}
use Rattle.std.proofs.Common.{sym, ap, ◌∙◌}
use Rattle.strided.specs.Layout.{Axis, no_axis, Within, total, axes_of}
use Rattle.strided.specs.Order.{pick, fusing_order}
use Rattle.strided.specs.declared.Purpose.{Purpose}
use Rattle.laws.specs.Base.Layouts.{within-at, extents-axes}
use Rattle.laws.specs.Order.Permutation.{fusing_permutes}
use Rattle.laws.specs.Fuse.Joined.{fused_total}
use Rattle.laws.specs.Fuse.Ordered.{order_total}
use Rattle.laws.specs.Fuse.Maps.{axes_permuted}
use Rattle.laws.specs.Fuse.Arrays.{Below, below_in, extents-picked}

-- ---- the order of fusing

module _ (es : List ℕ) (m : ℕ) (ss : List ℤ) (u : Purpose) where
  pub fusing_length : length (fusing_order es m ss u) ≡ length es
  fusing_length = (fusing_permutes es m ss u).many

  pub fusing_below : Below (length es) (fusing_order es m ss u)
  fusing_below = below_in (length es) (fusing_order es m ss u) (fusing_permutes es m ss u).below

  pub fusing_total : total (pick 0 es (fusing_order es m ss u)) ≡ total es
  fusing_total =
      let o : List ℕ = fusing_order es m ss u in
      let xs : List Axis = axes_of es m ss in
      ap total (sym (extents-picked ss (length es) m es o fusing_below))
      ∙ fused_total (pick no_axis xs o)
      ∙ sym (order_total o xs (axes_permuted es m ss u))
      ∙ ap total (extents-axes ss (length es) m 0 es)

-- ---- ranges

pub within-pick : (es is o : List ℕ) → Below (length es) o → Within es is → Within (pick 0 es o) (pick 0 is o)
within-pick es is [] b r = tt
within-pick es is (a ∷ o) b r = (within-at es is a r b.0, within-pick es is o b.1 r)
