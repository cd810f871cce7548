-- A layout with what is taken of it (`Selection`): the window's strides and shifts, as the code makes them. Assumes nothing.
use Rattle.std.specs.Prelude.{List, ℕ, ◌≤◌, ◌<◌, ℤ, length}
use Rattle.strided.specs.Layout.{dot, stride_row, max_i}
use Rattle.window.specs.declared.selection.Selection.{Selection}
use Rattle.window.specs.Window.{window_strides, window_shifts}
use Rattle.window.specs.Indices.{spread}

abbrev pub new_strides : Selection → List ℤ
new_strides s = window_strides s.picks.counts.now s.picks.steps.now s.layout.strides.now (length s.layout.extents.now) s.layout.operands

abbrev pub new_shifts : Selection → List ℤ
new_shifts s = window_shifts s.picks.firsts.now s.picks.counts.now s.layout.strides.now (length s.layout.extents.now) s.layout.operands

-- operand k's sum of first times stride
abbrev pub sum_at : Selection → ℕ → ℤ
sum_at s k = dot s.picks.firsts.now (stride_row s.layout.strides.now (length s.layout.extents.now) k)

-- no such sum leaves 64 bits
abbrev pub NearSums : Selection → Type 0
NearSums s = (k : ℕ) → k < s.layout.operands → spread s.picks.firsts.now (stride_row s.layout.strides.now (length s.layout.extents.now) k) ≤ max_i
