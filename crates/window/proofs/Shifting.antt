-- The shifts as the code comes to them: nothing where a count is 0, else the sums. And what the window's arrays are made from.
-- Assumes nothing.
use mathlib.Core.Path.{◌≡◌, sym, ap, ◌∙◌, subst}
use mathlib.Core.Bool.{Bool, true, false, cond}
use mathlib.Core.List.{List, map}
use Prim.Native.Nat.{ℕ, ◌≤◌, ◌<◌}
use native.Mathlib.Nat.{le_trans}
use lib.IntN.{ℤ, pos}
use lib.ListN.{length, replicate}
use Rattle.strided.specs.Base.{padded, run}
use Rattle.strided.specs.Layout.{has_zero, stride_row, max_i}
use Rattle.laws.specs.Base.Filling.{rows_alike}
use Rattle.laws.specs.Base.Stores.{blank-first}
use Rattle.laws.specs.Refusals.Zeros.{no_zero_of, no_zero_test}
use Rattle.window.specs.Window.{window_shifts}
use Rattle.window.specs.Indices.{spread, spread-reach, parent_nozero}
use Rattle.window.specs.Layouts.{WindowTaken}
use Rattle.window.specs.declared.selection.Selection.{Selection}
use Rattle.window.specs.Selected.{new_shifts, sum_at}

module _ (s : Selection) where
  -- operand k's shift, where b says whether a count is 0
  abbrev shift_by : Bool → ℕ → ℤ
  shift_by b k = cond b (pos 0) (sum_at s k)

  abbrev shifts_by : Bool → List ℤ
  shifts_by b = padded 8 (pos 0) (map (shift_by b) (run 0 s.layout.operands))

  pub shifts_none : has_zero s.picks.counts.now ≡ true → (D : List ℤ) → D ≡ replicate 8 (pos 0) → D ≡ padded 8 (pos 0) (new_shifts s)
  unfolding window_shifts
  shifts_none z D e =
      e ∙ blank-first (pos 0) 8 s.layout.operands s.layout.fits.operands_few ∙ ap (padded 8 (pos 0)) (sym (rows_alike (pos 0) 0 s.layout.operands)) ∙ ap shifts_by (sym z)

  pub shifts_some : has_zero s.picks.counts.now ≡ false → (D : List ℤ) → D ≡ padded 8 (pos 0) (map (sum_at s) (run 0 s.layout.operands)) → D ≡ padded 8 (pos 0) (new_shifts s)
  unfolding window_shifts
  shifts_some z D e = e ∙ ap shifts_by (sym z)

-- ---- of a window that is not refused

module _ (es : List ℕ) (operands : ℕ) (ss : List ℤ) (fs ns : List ℕ) (st : List ℤ) (w : WindowTaken es operands ss fs ns st) where
  pub taken_counts : length ns ≤ 64
  taken_counts = subst (λ (n : ℕ). n ≤ 64) (sym w.counts) w.axes

  -- no sum leaves 64 bits
  pub taken_spread : has_zero ns ≡ false → (k : ℕ) → k < operands → spread fs (stride_row ss (length es) k) ≤ max_i
  taken_spread q k h =
      le_trans (spread-reach w.lies (no_zero_of ns q) (stride_row ss (length es) k)) (w.near (no_zero_test es (parent_nozero w.lies (no_zero_of ns q))) k h)
