-- "Windows, steps and reversed axes" (document 02, ask 1). "A window gives per axis a first index, a count and a signed nonzero step. It
-- yields a layout and a shift of each operand's start." Three lists: firsts fs, counts ns, steps st.
-- Assumes nothing.
use Rattle.std.specs.Prelude.{Bool, false, cond, ◌&&◌, ◌||◌, not, List, [], ◌∷◌, map, ℕ, zero, suc, ltb, eqb, ℤ, pos, negsuc, nat_abs, ◌+ℤ◌, ◌*ℤ◌, length, get_or, Option, Result}
use Rattle.strided.specs.Base.{padded, over, run, some_of}
use Rattle.strided.specs.Layout.{stride_row, has_zero, dot, in_i64}
use Rattle.strided.specs.Refusals.{Row, refused_by, served_unless, row1, row2, row3, row5, row6}
use Rattle.strided.specs.declared.Refusal.{Refusal}
use Rattle.strided.specs.declared.Refusal.TheVariants.{Window}
use Rattle.window.specs.declared.Windowed.{Windowed}

-- ---- the parent index

-- "Window index i means parent index first + step × i"
abbrev pub along : ℕ → ℤ → ℕ → ℤ
along first step i = pos first +ℤ pos i *ℤ step

abbrev pub parent_index : List ℕ → List ℤ → List ℕ → List ℕ
parent_index [] st x = []
parent_index (f ∷ fs) [] x = []
parent_index (f ∷ fs) (s ∷ st) [] = []
parent_index (f ∷ fs) (s ∷ st) (i ∷ x) = nat_abs (along f s i) ∷ parent_index fs st x

-- ---- the window's layout: its extents are the counts

-- "With a count below 2 the stride is kept.", else it is step × stride
abbrev pub stepped_stride : ℕ → ℤ → ℤ → ℤ
stepped_stride n s t = cond (ltb n 2) t (s *ℤ t)

-- one operand's strides
abbrev pub stepped_row : List ℕ → List ℤ → List ℤ → List ℤ
stepped_row [] st ts = []
stepped_row (n ∷ ns) [] ts = []
stepped_row (n ∷ ns) (s ∷ st) [] = []
stepped_row (n ∷ ns) (s ∷ st) (t ∷ ts) = stepped_stride n s t ∷ stepped_row ns st ts

-- all of them, as a layout has them: `rank` strides for each operand
unfoldable pub window_strides : List ℕ → List ℤ → List ℤ → ℕ → ℕ → List ℤ
window_strides ns st ss rank operands = over (run 0 operands) (λ k. stepped_row ns st (stride_row ss rank k))

-- the shift of an operand's start: the sum of first times stride; "a count of 0 .. shifts nothing on any axis"
abbrev pub shift_of : List ℕ → List ℕ → List ℤ → ℤ
shift_of fs ns ts = cond (has_zero ns) (pos 0) (dot fs ts)

unfoldable pub window_shifts : List ℕ → List ℕ → List ℤ → ℕ → ℕ → List ℤ
window_shifts fs ns ss rank operands = map (λ k. shift_of fs ns (stride_row ss rank k)) (run 0 operands)

-- starts with the shifts added: where a walk of the window begins
abbrev pub shifted : List ℤ → List ℤ → List ℤ
shifted [] ds = []
shifted (z ∷ zs) [] = z ∷ zs
shifted (z ∷ zs) (d ∷ ds) = (z +ℤ d) ∷ shifted zs ds

-- ---- row 15

-- the number is an index of an axis of extent e
abbrev pub on_axis : ℕ → ℤ → Bool
on_axis e (pos j) = ltb j e
on_axis e (negsuc j) = false

-- "an index outside its axis, at count 0 a first above the extent": the first or the last is outside (Axes: exactly if some index is)
abbrev pub outside : ℕ → ℕ → ℕ → ℤ → Bool
outside e f zero s = ltb e f
outside e f (suc n) s = not (ltb f e && on_axis e (along f s n))

-- "step 0" or such an index, on axis i
abbrev pub axis_wrong : ℕ → ℕ → ℕ → ℤ → Bool
axis_wrong e f n s = eqb (nat_abs s) 0 || outside e f n s

abbrev pub axis_wrong_at : List ℕ → List ℕ → List ℕ → List ℤ → ℕ → Bool
axis_wrong_at es fs ns st i = axis_wrong (get_or es i 0) (get_or fs i 0) (get_or ns i 0) (get_or st i (pos 0))

-- "a new stride outside 64-bit signed": the one at place j
abbrev pub stride_over : List ℤ → ℕ → Bool
stride_over ws j = not (in_i64 (get_or ws j (pos 0)))

-- "lists without one entry per axis"
abbrev pub lists_wrong : ℕ → ℕ → ℕ → ℕ → Bool
lists_wrong rank f n s = not (eqb f rank) || (not (eqb n rank) || not (eqb s rank))

-- 15; ws are the window's strides
abbrev pub row15 : List ℕ → List ℕ → List ℕ → List ℤ → List ℤ → Row
row15 es fs ns st ws =
    record {
      applies =
          lists_wrong (length es) (length fs) (length ns) (length st)
          || (some_of (axis_wrong_at es fs ns st) 0 (length es) || some_of (stride_over ws) 0 (length ws));
      refusal = Window;
    }

-- "after 6, .. and 5 to 7 judge the parent": rows 1, 2, 3, 5, 6, 15. A window has no purpose, so no row 4; and row 7 is given no longer (ask 6)
abbrev pub window_rows : List ℕ → List ℕ → List ℤ → List ℕ → List ℕ → List ℤ → List Row
window_rows es sizes ss fs ns st =
    row1 (length es) ∷ row2 (length sizes) ∷ row3 (length es) (length sizes) ss ∷ row5 es
    ∷ row6 es (length sizes) (stride_row ss (length es)) ∷ row15 es fs ns st (window_strides ns st ss (length es) (length sizes))
    ∷ []

unfoldable pub window_refused : List ℕ → List ℕ → List ℤ → List ℕ → List ℕ → List ℤ → Option Refusal
window_refused es sizes ss fs ns st = refused_by (window_rows es sizes ss fs ns st)

-- ---- the entry

-- "It yields a layout and a shift of each operand's start."
abbrev pub some_window : List ℕ → List ℕ → List ℤ → List ℕ → List ℕ → List ℤ → Windowed
some_window es sizes ss fs ns st =
    record {
      rank = length es;
      operands = length sizes;
      extents = padded 64 0 ns;
      strides = padded 512 (pos 0) (window_strides ns st ss (length es) (length sizes));
      shifts = padded 8 (pos 0) (window_shifts fs ns ss (length es) (length sizes));
    }

-- A WINDOW: rows 1, 2, 3, 5, 6 and 15, else the window. "A refusal carries its number and nothing else."
unfoldable pub windowed : List ℕ → List ℕ → List ℤ → List ℕ → List ℕ → List ℤ → Result Windowed Refusal
windowed es sizes ss fs ns st = served_unless (window_refused es sizes ss fs ns st) (some_window es sizes ss fs ns st)
