-- A WINDOW THAT IS SERVED, WHOLE: what document 02 asks of its indices, its offsets, its layout and its starts, and that the entry hands out
-- just these lists. The walk is in Walks. Assumes nothing.
use Rattle.std.specs.Prelude.{◌≡◌, false, List, ℕ, ◌*◌, ◌≤◌, ◌<◌, ℤ, pos, ◌+ℤ◌, length, get_or, take, None, Ok}
use Rattle.std.proofs.Math.Path.{ap}
use Rattle.std.proofs.Common.{◌∙◌}
use Rattle.strided.specs.Layout.{Within, dot, total, reach, chosen, stride_row}
use Rattle.strided.specs.Machine.{Allowed}
use Rattle.strided.specs.Refusals.{missing, layout_refused, planning_refused, row9}
use Rattle.strided.specs.declared.Machine.{Machine}
use Rattle.strided.specs.declared.Purpose.{Purpose}
use Rattle.laws.specs.Refusals.Rows.{served_is}
use Rattle.window.specs.declared.Windowed.{Windowed}
use Rattle.window.specs.Window.{parent_index, window_strides, window_shifts, shifted, window_refused, some_window, windowed}
use Rattle.window.specs.Indices.{parent_within, parent_once, window_total}
use Rattle.window.specs.Layouts.{WindowTaken, window_taken, served_window, operand_reach, window_planned, handed-extents, handed_strides_lem, handed_shifts_lem}
use Rattle.window.specs.Starts.{window_offset, window_row9}

-- ws and ds are the window's strides and shifts
pub record WindowRight (es sizes : List ℕ) (ss : List ℤ) (fs ns : List ℕ) (st ws ds : List ℤ) : Type 0 where
  -- "Window index i means parent index first + step × i"
  pub within : (x : List ℕ) → Within ns x → Within es (parent_index fs st x)
  -- "no two of these name the same parent index"
  pub once : (x y : List ℕ) → Within ns x → Within ns y → parent_index fs st x ≡ parent_index fs st y → x ≡ y
  -- "the offsets must agree cell by cell"
  pub offsets : (x : List ℕ) → Within ns x → (k : ℕ) → k < length sizes
      → get_or ds k (pos 0) +ℤ dot x (stride_row ws (length ns) k) ≡ dot (parent_index fs st x) (stride_row ss (length es) k)
  -- no more cells and no more reach than the parent
  pub cells : total ns ≤ total es
  pub reaches : (k : ℕ) → k < length sizes → reach ns (stride_row ws (length ns) k) ≤ reach es (stride_row ss (length es) k)
  -- where planning takes the parent for one purpose, it takes the window on every allowed machine, for every purpose whose chosen operand is there
  pub planned : (u : Purpose) → layout_refused es sizes ss u ≡ None → (mc : Machine) (v : Purpose) → Allowed mc → missing (length sizes) (chosen v) ≡ false
      → planning_refused mc ns sizes ws v ≡ None
  -- starts that the parent takes are taken, shifted
  pub starts : (zs : List ℤ) → length zs ≡ length sizes → (row9 es (length sizes) (stride_row ss (length es)) zs).applies ≡ false
      → (row9 ns (length sizes) (stride_row ws (length ns)) (shifted zs ds)).applies ≡ false

-- what the entry hands out, by its counts
abbrev pub handed_extents : Windowed → List ℕ
handed_extents r = take r.rank r.extents

abbrev pub handed_strides : Windowed → List ℤ
handed_strides r = take (r.rank * r.operands) r.strides

abbrev pub handed_shifts : Windowed → List ℤ
handed_shifts r = take r.operands r.shifts

module _ (es sizes : List ℕ) (ss : List ℤ) (fs ns : List ℕ) (st : List ℤ) {r : Windowed} (h : windowed es sizes ss fs ns st ≡ Ok r) where
  w : WindowTaken es (length sizes) ss fs ns st
  w = window_taken es sizes ss fs ns st (served_window es sizes ss fs ns st h)

  pub window_right : WindowRight es sizes ss fs ns st (window_strides ns st ss (length es) (length sizes)) (window_shifts fs ns ss (length es) (length sizes))
  window_right =
      record {
        within = parent_within w.lies;
        once = parent_once w.lies;
        offsets = window_offset es sizes ss fs ns st w;
        cells = window_total w.lies;
        reaches = operand_reach es sizes ss fs ns st w;
        planned = window_planned es sizes ss fs ns st w;
        starts = window_row9 es sizes ss fs ns st w;
      }

  is_window : r ≡ some_window es sizes ss fs ns st
  unfolding windowed
  is_window = served_is (window_refused es sizes ss fs ns st) _ h

  -- the window's extents are the counts, and its strides and shifts are those of `window_right`
  pub hands_extents : handed_extents r ≡ ns
  hands_extents = ap handed_extents is_window ∙ handed-extents es sizes ss fs ns st w

  pub hands_strides : handed_strides r ≡ window_strides ns st ss (length es) (length sizes)
  hands_strides = ap handed_strides is_window ∙ handed_strides_lem es sizes ss fs ns st w

  pub hands_shifts : handed_shifts r ≡ window_shifts fs ns ss (length es) (length sizes)
  hands_shifts = ap handed_shifts is_window ∙ handed_shifts_lem es sizes ss fs ns st w
