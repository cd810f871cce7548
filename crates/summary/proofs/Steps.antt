-- One more cell: the summary by the kind of the cell, and its counts. Assumes nothing.
use Rattle.std.specs.Prelude.{◌≡◌, refl, Bool, true, false, not, cond, ◌&&◌, List, [], ◌∷◌, ◌++◌, ℕ, ◌+◌, ◌*◌, ◌≤◌, T, eqb, Float, length}
use Rattle.std.proofs.Common.{le_refl, arith}
use Rattle.std.proofs.Math.Dec.{eqb_refl}
use Rattle.std.specs.Float.{nan, inf, fin}
use Rattle.std.specs.Float.Ieee.{up, down, ne, is_nan}
use Rattle.summary.specs.declared.cell.Summary.{Summary}
use Rattle.summary.specs.Sums.{with_sum, with_nan, with_number, with_cell, with_cells}

same_true : (p : Bool) → T p → not (p && true) ≡ false
same_true true t = refl
same_true false t = elim t [ ]

-- a float differs from itself exactly if it is not a number
pub ne_is : (x : Float) → ne x x ≡ is_nan x
unfolding ne is_nan
ne_is nan = refl
ne_is (inf true) = refl
ne_is (inf false) = refl
ne_is (fin true m e) = same_true (eqb (m * up e * down e) (m * up e * down e)) (eqb_refl (m * up e * down e))
ne_is (fin false m e) = same_true (eqb (m * up e * down e) (m * up e * down e)) (eqb_refl (m * up e * down e))

-- ---- by the kind of the cell

pub at_nan : (s : Summary) (x : Float) → is_nan x ≡ true → with_cell s x ≡ with_nan s x
at_nan s x h = rw h

pub at-number : (s : Summary) (x : Float) (b : Bool) → is_nan x ≡ false → s.extremes ≡ b → with_cell s x ≡ with_number b s x
at-number s x b h k = rw (h, k)

-- ---- the counts

number-count : (b : Bool) (s : Summary) (x : Float) → (with_number b s x).count ≡ s.count + 1
number-count true s x = refl
number-count false s x = refl

number_nans : (b : Bool) (s : Summary) (x : Float) → (with_number b s x).nans ≡ s.nans
number_nans true s x = refl
number_nans false s x = refl

-- each cell is counted, and at most once as not a number
pub step_count : (s : Summary) (x : Float) → (with_cell s x).count ≡ s.count + 1
step_count s x = go (is_nan x)
  where
    go : (b : Bool) → (cond b (with_nan s x) (with_number s.extremes s x)).count ≡ s.count + 1
    go true = refl
    go false = number-count s.extremes s x

pub step_nans : (s : Summary) (x : Float) → (with_cell s x).nans ≡ s.nans + cond (is_nan x) 1 0
step_nans s x = go (is_nan x)
  where
    go : (b : Bool) → (cond b (with_nan s x) (with_number s.extremes s x)).nans ≡ s.nans + cond b 1 0
    go true = refl
    go false = let e = number_nans s.extremes s x in omega (arith, e)

one_at_most : (b : Bool) → cond {A = ℕ} b 1 0 ≤ 1
one_at_most true = le_refl 1
one_at_most false = omega arith

pub step-few : (s : Summary) (x : Float) → s.nans ≤ s.count → (with_cell s x).nans ≤ (with_cell s x).count
step-few s x h = let a = step_nans s x in let b = step_count s x in let c = one_at_most (is_nan x) in omega (arith, a, b, c, h)

-- the sum
pub step_sum : (s : Summary) (x : Float) → (with_cell s x).sum ≡ with_sum s.sum x
step_sum s x = go (is_nan x) s.extremes
  where
    go : (b k : Bool) → (cond b (with_nan s x) (with_number k s x)).sum ≡ with_sum s.sum x
    go true k = refl
    go false true = refl
    go false false = refl

-- ---- cells in order

pub cells-append : (s : Summary) (xs ys : List Float) → with_cells s (xs ++ ys) ≡ with_cells (with_cells s xs) ys
cells-append s [] ys = refl
cells-append s (x ∷ xs) ys = cells-append (with_cell s x) xs ys

pub cells_count : (s : Summary) (xs : List Float) → (with_cells s xs).count ≡ s.count + length xs
cells_count s [] = omega arith
cells_count s (x ∷ xs) = let a = cells_count (with_cell s x) xs in let b = step_count s x in omega (arith, a, b)

pub cells-few : (s : Summary) (xs : List Float) → s.nans ≤ s.count → (with_cells s xs).nans ≤ (with_cells s xs).count
cells-few s [] h = h
cells-few s (x ∷ xs) h = cells-few (with_cell s x) xs (step-few s x h)
