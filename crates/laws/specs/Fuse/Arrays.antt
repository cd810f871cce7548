-- Axes put into another order: orders of axes that there are, the axes that they name, and the table of strides, operand by operand.
-- Assumes nothing.
use Rattle.std.specs.Prelude.{◌≡◌, refl, List, [], ◌∷◌, ◌++◌, ℕ, zero, suc, ◌+◌, ◌*◌, ◌≤◌, ◌<◌, ℤ, pos, length, get_or, take, drop}
use Rattle.std.proofs.Common.{sym, ap, ap₂, ◌∙◌, inl, inr, append-nil, append_assoc, arith, length-append, get_or-take}
use Rattle.strided.specs.Base.{padded, over, run}
use Rattle.strided.specs.Layout.{Axis, no_axis, extents, stride_column, axes_from}
use Rattle.strided.specs.Order.{pick}
use Rattle.strided.specs.Fuse.{fuse}
use Rattle.laws.specs.Base.Layouts.{length-row}
use Rattle.laws.specs.Base.Lists.{over_agree}
use Rattle.laws.specs.Fuse.Fused.{row-fuse}
use Rattle.laws.specs.Order.Permutation.{In}

-- ---- orders of axes below n

abbrev pub Below : ℕ → List ℕ → Type 0
Below n [] = Unit {0}
Below n (a ∷ o) = (a < n) × Below n o

pub below_in : (n : ℕ) (o : List ℕ) → ((j : ℕ) → In j o → j < n) → Below n o
below_in n [] f = tt
below_in n (a ∷ o) f = (f a (inl refl), below_in n o (λ j m. f j (inr m)))

pub below_at : (n : ℕ) (o : List ℕ) → Below n o → (j : ℕ) → j < length o → get_or o j 0 < n
below_at n [] b j h = absurd (bad h)
  where
    bad : j < 0 → ⊥
    bad h = omega arith
below_at n (a ∷ o) b zero h = b.0
below_at n (a ∷ o) b (suc j) h = below_at n o b.1 j (omega arith)

pub at-below : (n : ℕ) (o : List ℕ) → ((j : ℕ) → j < length o → get_or o j 0 < n) → Below n o
at-below n [] f = tt
at-below n (a ∷ o) f = (f 0 (omega arith), at-below n o (λ j h. f (suc j) (omega arith)))

-- ---- an axis of a layout

pub get_d_axis : (ss : List ℤ) (p m : ℕ) (es : List ℕ) (s a : ℕ) → a < length es
    → get_or (axes_from ss p m s es) a no_axis ≡ record { extent = get_or es a 0; strides = stride_column ss p (s + a) 0 m }
get_d_axis ss p m [] s a h = absurd (bad h)
  where
    bad : a < 0 → ⊥
    bad h = omega arith
get_d_axis ss p m (e ∷ es) s zero h = let q : s + 0 ≡ s = omega arith in rw q
get_d_axis ss p m (e ∷ es) s (suc a) h =
    let q : s + suc a ≡ suc s + a = omega arith in
    rw q (get_d_axis ss p m es (suc s) a (omega arith))

-- ---- axes in another order

module _ (ss : List ℤ) (p m : ℕ) (es : List ℕ) where
  pub extents-picked : (o : List ℕ) → Below (length es) o → extents (pick no_axis (axes_from ss p m 0 es) o) ≡ pick 0 es o
  extents-picked [] b = refl
  extents-picked (a ∷ o) b = ap₂ (λ (x : ℕ) (r : List ℕ). x ∷ r) (ap (λ (x : Axis). x.extent) (get_d_axis ss p m es 0 a b.0)) (extents-picked o b.1)

pub get_d_pick : {A : Type 0} (d : A) (xs : List A) (o : List ℕ) (j : ℕ) → j < length o → get_or (pick d xs o) j d ≡ get_or xs (get_or o j 0) d
get_d_pick d xs [] j h = absurd (bad h)
  where
    bad : j < 0 → ⊥
    bad h = omega arith
get_d_pick d xs (a ∷ o) zero h = refl
get_d_pick d xs (a ∷ o) (suc j) h = get_d_pick d xs o j (omega arith)

-- places before n pick the same of the first n
pub pick_first : {A : Type 0} (d : A) (xs : List A) (n : ℕ) (o : List ℕ) → Below n o → pick d xs o ≡ pick d (take n xs) o
pick_first d xs n [] b = refl
pick_first d xs n (a ∷ o) b = ap₂ (λ x r. x ∷ r) (sym (get_or-take n xs a d b.0)) (pick_first d xs n o b.1)

-- ---- the table of strides, operand by operand

-- operand k's strides in the order o, of a flat list with p strides for each operand
abbrev pub pick_row : List ℤ → ℕ → List ℕ → ℕ → List ℤ
pick_row ss p o k = pick (pos 0) (drop (k * p) ss) o

-- the rows of the operands before m, 64 places each
abbrev pub pick_rows : List ℤ → ℕ → List ℕ → ℕ → List ℤ
pick_rows ss p o m = over (run 0 m) (λ k. padded 64 (pos 0) (pick_row ss p o k))

pub over-same : {A : Type 0} (f g : ℕ → List A) (s m : ℕ) → ((k : ℕ) → s ≤ k → k < s + m → f k ≡ g k) → over (run s m) f ≡ over (run s m) g
over-same f g s m h = over_agree f g s m h

pub length-rows : {A : Type 0} (f : ℕ → List A) (w s m : ℕ) → ((k : ℕ) → length (f k) ≡ w) → length (over (run s m) f) ≡ m * w
length-rows f w s zero h = omega arith
length-rows f w s (suc m) h = length-append (f s) (over (run (suc s) m) f) ∙ omega (arith, h s, length-rows f w (suc s) m h)

-- one operand more
pub rows_more : {A : Type 0} (f : ℕ → List A) (s m : ℕ) → over (run s (suc m)) f ≡ over (run s m) f ++ f (s + m)
rows_more f s zero = let q : s + 0 ≡ s = omega arith in rw q (append-nil (f s))
rows_more f s (suc m) =
    let q : s + suc m ≡ suc s + m = omega arith in
    rw q (ap (λ r. f s ++ r) (rows_more f (suc s) m) ∙ sym (append_assoc (f s) (over (run (suc s) m) f) (f (suc s + m))))

-- ---- fusing leaves the number of axes alone

pub length-fuse : (xs : List Axis) → length (fuse xs) ≡ length xs
length-fuse xs = sym (length-row 0 (fuse xs)) ∙ ap length (row-fuse 0 xs) ∙ length-row 0 xs
