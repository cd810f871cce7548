-- `layout::rows::far_at` meets its contract: a capped reach and the reach are on the same side of the bound. Assumes nothing.
use mathlib.Core.Path.{refl, sym, ◌∙◌, ap}
use mathlib.Core.List.{List}
use Prim.Native.Nat.{◌^◌, min}
use lib.IntN.{ℤ}
use Rattle.strided.specs.Layout.{reach}
use Rattle.layout.proofs.Tests.{far_is}
use Rattle.layout.proofs.rows.far_at.Goals as goal

pub returns : goal.returns
returns c =
    let a = c.args in
    let is = c.reach_of.ensures ∙ ap (λ (r : List ℤ). min (reach a.extents.now r) (2 ^ 63)) c.row.ensures in
    sym (far_is a.extents.now a.rows.strides.now a.rows.pitch a.k _ is refl)
