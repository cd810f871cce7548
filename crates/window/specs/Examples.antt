-- Small windows, computed: every second index, a reversed axis, an empty window, and what is refused; and the order of the rows.
-- Assumes nothing.
use Rattle.std.specs.Prelude.{◌≡◌, refl, List, [], ◌∷◌, ℕ, ℤ, pos, negsuc, Option, None, Some}
use Rattle.strided.specs.Base.{some_of}
use Rattle.strided.specs.Rows.{numbers}
use Rattle.strided.specs.declared.Refusal.{Refusal}
use Rattle.strided.specs.declared.Refusal.TheVariants.{Reach, Window}
use Rattle.window.specs.Window.{parent_index, window_strides, window_shifts, window_rows, window_refused}

-- a window of the layout of extents 4 and 5 with one operand of size 8 and strides 1 and 4: firsts, counts, steps
pub record Row : Type 0 where
  pub firsts : List ℕ
  pub counts : List ℕ
  pub steps : List ℤ
  pub refused : Option Refusal
  pub strides : List ℤ
  pub shifts : List ℤ

abbrev Right : Row → Type 0
Right r =
    (window_refused (4 ∷ 5 ∷ []) (8 ∷ []) (pos 1 ∷ pos 4 ∷ []) r.firsts r.counts r.steps ≡ r.refused)
    × (window_strides r.counts r.steps (pos 1 ∷ pos 4 ∷ []) 2 1 ≡ r.strides) × (window_shifts r.firsts r.counts (pos 1 ∷ pos 4 ∷ []) 2 1 ≡ r.shifts)

abbrev All : List Row → Type 0
All [] = Unit {0}
All (r ∷ rs) = Right r × All rs

abbrev rows : List Row
rows =
    -- axis 0 from 3 down by 2, axis 1 every second index
    record { firsts = 3 ∷ 0 ∷ []; counts = 2 ∷ 3 ∷ []; steps = negsuc 1 ∷ pos 2 ∷ []; refused = None; strides = negsuc 1 ∷ pos 8 ∷ []; shifts = pos 3 ∷ [] }
    -- axis 1 reversed; axis 0 has one index, so its stride is kept
    ∷ record { firsts = 2 ∷ 4 ∷ []; counts = 1 ∷ 5 ∷ []; steps = pos 7 ∷ negsuc 0 ∷ []; refused = None; strides = pos 1 ∷ negsuc 3 ∷ []; shifts = pos 18 ∷ [] }
    -- nothing on axis 1, from behind its end: no shift on any axis
    ∷ record { firsts = 2 ∷ 5 ∷ []; counts = 2 ∷ 0 ∷ []; steps = pos 1 ∷ pos 1 ∷ []; refused = None; strides = pos 1 ∷ pos 4 ∷ []; shifts = pos 0 ∷ [] }
    -- one behind that
    ∷ record { firsts = 2 ∷ 6 ∷ []; counts = 2 ∷ 0 ∷ []; steps = pos 1 ∷ pos 1 ∷ []; refused = Some Window; strides = pos 1 ∷ pos 4 ∷ []; shifts = pos 0 ∷ [] }
    -- the last index is outside
    ∷ record { firsts = 0 ∷ 0 ∷ []; counts = 3 ∷ 1 ∷ []; steps = pos 2 ∷ pos 1 ∷ []; refused = Some Window; strides = pos 2 ∷ pos 4 ∷ []; shifts = pos 0 ∷ [] }
    -- and below
    ∷ record { firsts = 1 ∷ 0 ∷ []; counts = 3 ∷ 1 ∷ []; steps = negsuc 0 ∷ pos 1 ∷ []; refused = Some Window; strides = negsuc 0 ∷ pos 4 ∷ []; shifts = pos 1 ∷ [] }
    -- a step of 0, at a count of 1
    ∷ record { firsts = 0 ∷ 0 ∷ []; counts = 1 ∷ 1 ∷ []; steps = pos 0 ∷ pos 1 ∷ []; refused = Some Window; strides = pos 1 ∷ pos 4 ∷ []; shifts = pos 0 ∷ [] }
    ∷ []

pub rows_right : All rows
unfolding window_refused window_strides window_shifts some_of
rows_right = ((refl, refl, refl), ((refl, refl, refl), ((refl, refl, refl), ((refl, refl, refl), ((refl, refl, refl), ((refl, refl, refl), ((refl, refl, refl), tt)))))))

-- index 1, 2 of the first window
pub first_index : parent_index (3 ∷ 0 ∷ []) (negsuc 1 ∷ pos 2 ∷ []) (1 ∷ 2 ∷ []) ≡ 1 ∷ 4 ∷ []
first_index = refl

-- the numbers of a window's rows, in the order in which they are asked, whatever the entry is called with
pub window_rows_lem : (es sizes : List ℕ) (ss : List ℤ) (fs ns : List ℕ) (st : List ℤ) → numbers (window_rows es sizes ss fs ns st) ≡ 1 ∷ 2 ∷ 3 ∷ 5 ∷ 6 ∷ 15 ∷ []
window_rows_lem es sizes ss fs ns st = refl

-- "after 6": a wrong window of a parent that row 6 refuses
pub after_6 : window_refused (3 ∷ []) (8 ∷ []) (pos 9223372036854775807 ∷ []) (9 ∷ []) (1 ∷ []) (pos 1 ∷ []) ≡ Some Reach
unfolding window_refused window_strides some_of
after_6 = refl

-- beside an extent of 0 a stride can leave 64 bits, and the least i64 as step
pub least_step : window_refused (0 ∷ 9223372036854775809 ∷ []) (8 ∷ []) (pos 1 ∷ pos 1 ∷ []) (0 ∷ 9223372036854775808 ∷ []) (0 ∷ 2 ∷ []) (pos 1 ∷ negsuc 9223372036854775807 ∷ []) ≡ None
unfolding window_refused window_strides some_of
least_step = refl

pub stride_over_lem : window_refused (0 ∷ 9223372036854775809 ∷ []) (8 ∷ []) (pos 1 ∷ negsuc 0 ∷ []) (0 ∷ 9223372036854775808 ∷ []) (0 ∷ 2 ∷ []) (pos 1 ∷ negsuc 9223372036854775807 ∷ []) ≡ Some Window
unfolding window_refused window_strides some_of
stride_over_lem = refl
