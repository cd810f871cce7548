-- ALL AXES OF A WINDOW: its indices lie in the parent, no two name the same parent index, and offsets agree with the shift; it has no more
-- cells and no more reach than the parent. Assumes nothing.
use Rattle.std.specs.Prelude.{◌≡◌, refl, false, List, [], ◌∷◌, ℕ, zero, suc, ◌+◌, ◌*◌, ◌≤◌, ◌<◌, ℤ, pos, nat_abs, ◌+ℤ◌, ◌*ℤ◌, length, get_or}
use Rattle.std.proofs.Common.{ap, ap₂, ◌∙◌, mul-le-mul_left, mul-le-mul_right, le_trans, arith}
use Rattle.strided.specs.Layout.{Within, NoZero, dot, total, reach}
use Rattle.laws.specs.Base.Integers.{+ℤ-interchange}
use Rattle.window.specs.Window.{along, parent_index, stepped_stride, stepped_row, axis_wrong_at}
use Rattle.window.specs.Counted.{Counted}
use Rattle.window.specs.Axes.{AxisLies, right_axis, axis_within, axis_once, axis_offset, axis_count, axis_reach, axis_first}

-- the window lies in the extents, axis by axis
pub data Lies : List ℕ → List ℕ → List ℕ → List ℤ → Type 0 where
  no_axis_lem : Lies [] [] [] []
  one_more_lem : {e f n : ℕ} {s : ℤ} {es fs ns : List ℕ} {st : List ℤ} → AxisLies e f n s → Lies es fs ns st → Lies (e ∷ es) (f ∷ fs) (n ∷ ns) (s ∷ st)

-- from row 15's test of each axis
pub all_lie : (es fs ns : List ℕ) (st : List ℤ) → length fs ≡ length es → length ns ≡ length es → length st ≡ length es
    → ((i : ℕ) → i < length es → axis_wrong_at es fs ns st i ≡ false) → Lies es fs ns st
all_lie [] [] [] [] p q r h = no_axis_lem
all_lie [] [] [] (s ∷ st) p q r h = absurd (omega arith)
all_lie [] [] (n ∷ ns) st p q r h = absurd (omega arith)
all_lie [] (f ∷ fs) ns st p q r h = absurd (omega arith)
all_lie (e ∷ es) [] ns st p q r h = absurd (omega arith)
all_lie (e ∷ es) (f ∷ fs) [] st p q r h = absurd (omega arith)
all_lie (e ∷ es) (f ∷ fs) (n ∷ ns) [] p q r h = absurd (omega arith)
all_lie (e ∷ es) (f ∷ fs) (n ∷ ns) (s ∷ st) p q r h =
    one_more_lem (right_axis e f n s (h 0 (omega arith))) (all_lie es fs ns st (omega arith) (omega arith) (omega arith) (λ i l. h (suc i) (omega arith)))

-- its lists have an entry for each axis
pub lies_counted : {es fs ns : List ℕ} {st : List ℤ} → Lies es fs ns st → Counted (length es) fs ns st
lies_counted no_axis_lem = record { firsts = refl; counts = refl; steps = refl }
lies_counted (one_more_lem a r) =
    let c = lies_counted r in
    record { firsts = ap suc c.firsts; counts = ap suc c.counts; steps = ap suc c.steps }

-- axis i of it
pub lies_at : {es fs ns : List ℕ} {st : List ℤ} → Lies es fs ns st → (i : ℕ) → i < length es
    → AxisLies (get_or es i 0) (get_or fs i 0) (get_or ns i 0) (get_or st i (pos 0))
lies_at no_axis_lem i h = absurd (bad h)
  where
    bad : i < 0 → ⊥
    bad h = omega arith
lies_at (one_more_lem a r) zero h = a
lies_at (one_more_lem a r) (suc i) h = lies_at r i (omega arith)

-- A WINDOW INDEX LIES IN THE PARENT
pub parent_within : {es fs ns : List ℕ} {st : List ℤ} → Lies es fs ns st → (x : List ℕ) → Within ns x → Within es (parent_index fs st x)
parent_within no_axis_lem [] w = tt
parent_within no_axis_lem (i ∷ x) w = absurd w
parent_within (one_more_lem a r) [] w = absurd w
parent_within (one_more_lem {e} {f} {n} {s} a r) (i ∷ x) w = (axis_within e f n s a i w.0, parent_within r x w.1)

-- NO TWO WINDOW INDICES NAME THE SAME PARENT INDEX
pub parent_once : {es fs ns : List ℕ} {st : List ℤ} → Lies es fs ns st → (x y : List ℕ) → Within ns x → Within ns y
    → parent_index fs st x ≡ parent_index fs st y → x ≡ y
parent_once no_axis_lem [] [] w v e = refl
parent_once no_axis_lem [] (j ∷ y) w v e = absurd v
parent_once no_axis_lem (i ∷ x) y w v e = absurd w
parent_once (one_more_lem a r) [] y w v e = absurd w
parent_once (one_more_lem a r) (i ∷ x) [] w v e = absurd v
parent_once (one_more_lem {e} {f} {n} {s} {es} {fs} {ns} {st} a r) (i ∷ x) (j ∷ y) w v q =
    let p : nat_abs (along f s i) ≡ nat_abs (along f s j) = cc in
    let t : parent_index fs st x ≡ parent_index fs st y = cc in
    ap₂ (λ (k : ℕ) (z : List ℕ). k ∷ z) (axis_once e f n s a i j w.0 v.0 p) (parent_once r x y w.1 v.1 t)

-- OFFSETS AGREE CELL BY CELL: the sum of first times stride, and the window index times the window's strides
pub parent_dot : {es fs ns : List ℕ} {st : List ℤ} → Lies es fs ns st → (ts : List ℤ) (x : List ℕ) → Within ns x
    → dot fs ts +ℤ dot x (stepped_row ns st ts) ≡ dot (parent_index fs st x) ts
parent_dot no_axis_lem ts [] w = refl
parent_dot no_axis_lem ts (i ∷ x) w = absurd w
parent_dot (one_more_lem a r) ts [] w = absurd w
parent_dot (one_more_lem a r) [] (i ∷ x) w = refl
parent_dot (one_more_lem {e} {f} {n} {s} {es} {fs} {ns} {st} a r) (t ∷ ts) (i ∷ x) w =
    +ℤ-interchange (pos f *ℤ t) (dot fs ts) (pos i *ℤ stepped_stride n s t) (dot x (stepped_row ns st ts))
    ∙ ap₂ (λ (y z : ℤ). y +ℤ z) (axis_offset e f n s a t i w.0) (parent_dot r ts x w.1)

-- THE WINDOW HAS NO MORE CELLS
pub window_total : {es fs ns : List ℕ} {st : List ℤ} → Lies es fs ns st → total ns ≤ total es
window_total no_axis_lem = omega arith
window_total (one_more_lem {e} {f} {n} {s} {es} {fs} {ns} a r) =
    le_trans (mul-le-mul_left n (window_total r)) (mul-le-mul_right (total es) (axis_count e f n s a))

-- AND NO MORE REACH
pub window_reach : {es fs ns : List ℕ} {st : List ℤ} → Lies es fs ns st → (ts : List ℤ) → reach ns (stepped_row ns st ts) ≤ reach es ts
window_reach no_axis_lem ts = omega arith
window_reach (one_more_lem a r) [] = omega arith
window_reach (one_more_lem {e} {f} {n} {s} a r) (t ∷ ts) = omega (arith, axis_reach e f n s a t, window_reach r ts)

-- a window with no count of 0 has a parent with no extent of 0
pub parent_nozero : {es fs ns : List ℕ} {st : List ℤ} → Lies es fs ns st → NoZero ns → NoZero es
parent_nozero no_axis_lem h = tt
parent_nozero (one_more_lem {e} {f} {n} {s} a r) h = (omega (arith, axis_count e f n s a, h.0), parent_nozero r h.1)

-- what the sum of first times stride can come to, in size
abbrev pub spread : List ℕ → List ℤ → ℕ
spread [] ts = 0
spread (f ∷ fs) [] = 0
spread (f ∷ fs) (t ∷ ts) = f * nat_abs t + spread fs ts

pub spread-reach : {es fs ns : List ℕ} {st : List ℤ} → Lies es fs ns st → NoZero ns → (ts : List ℤ) → spread fs ts ≤ reach es ts
spread-reach no_axis_lem h ts = omega arith
spread-reach (one_more_lem a r) h [] = omega arith
spread-reach (one_more_lem {e} {f} {n} {s} a r) h (t ∷ ts) = omega (arith, axis_first e f n s a t h.0, spread-reach r h.1 ts)
