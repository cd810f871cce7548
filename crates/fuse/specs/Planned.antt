-- The axes of a layout's plan, by the order that they are fused in. Assumes nothing.
use Rattle.std.specs.Prelude.{List, ℕ, ℤ}
use Rattle.strided.specs.Layout.{Axis, axes_of, no_axis, extents}
use Rattle.strided.specs.Order.{pick}
use Rattle.strided.specs.Fuse.{fuse, fused_axes}

-- the extents of a layout's axes in an order, fused: an axis that joined another has extent 1
abbrev pub extents_in : List ℕ → ℕ → List ℤ → List ℕ → List ℕ
extents_in es operands ss order = extents (fuse (pick no_axis (axes_of es operands ss) order))

-- the axes of a layout's plan, whatever order they are fused in
abbrev pub fused_in : List ℕ → ℕ → List ℤ → List ℕ → List Axis
fused_in es operands ss order = fused_axes (pick no_axis (axes_of es operands ss) order)
