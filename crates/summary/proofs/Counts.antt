-- THE COUNTS: each cell is counted at each visit, those that are not a number too; and with one of those the sum is not a number. So a sum that is
-- a number has seen none. Assumes nothing.
use Rattle.std.specs.Prelude.{◌≡◌, refl, Bool, true, false, cond, List, [], ◌∷◌, ℕ, ◌+◌, ◌<◌, Float, length}
use Rattle.std.proofs.Common.{ap, ◌∙◌, subst, arith}
use Rattle.std.specs.Float.{nan, inf, fin, binary64}
use Rattle.std.specs.Float.Ieee.{add, is_nan}
use Rattle.summary.specs.declared.cell.Summary.{Summary}
use Rattle.summary.specs.Sums.{with_sum, with_cell, with_cells, nothing_met, summary_of}
use Rattle.summary.proofs.Steps.{step_nans, step_sum, cells_count}

-- how many cells are not a number
abbrev pub nans_in : List Float → ℕ
nans_in [] = 0
nans_in (x ∷ xs) = cond (is_nan x) 1 0 + nans_in xs

pub count-all : (xs : List Float) → (summary_of xs).count ≡ length xs
unfolding summary_of
count-all xs = let e = cells_count nothing_met xs in omega (arith, e)

cells_nans : (s : Summary) (xs : List Float) → (with_cells s xs).nans ≡ s.nans + nans_in xs
cells_nans s [] = omega arith
cells_nans s (x ∷ xs) = let a = cells_nans (with_cell s x) xs in let b = step_nans s x in omega (arith, a, b)

pub nans_all : (xs : List Float) → (summary_of xs).nans ≡ nans_in xs
unfolding summary_of
nans_all xs = let e = cells_nans nothing_met xs in omega (arith, e)

-- ---- a sum that is not a number stays one

add_nan_left : (x : Float) → add binary64 nan x ≡ nan
unfolding add
add_nan_left x = refl

add_nan_right : (x : Float) → add binary64 x nan ≡ nan
unfolding add
add_nan_right nan = refl
add_nan_right (inf s) = refl
add_nan_right (fin s m e) = refl

is_nan_lem : (x : Float) → is_nan x ≡ true → x ≡ nan
unfolding is_nan
is_nan_lem nan h = refl
is_nan_lem (inf s) h = let z : ◌≡◌ {A = ℕ} 0 1 = cc h in absurd (omega arith)
is_nan_lem (fin s m e) h = let z : ◌≡◌ {A = ℕ} 0 1 = cc h in absurd (omega arith)

stays_nan : (s : Summary) (xs : List Float) → s.sum ≡ nan → (with_cells s xs).sum ≡ nan
stays_nan s [] h = h
stays_nan s (x ∷ xs) h = stays_nan (with_cell s x) xs (step_sum s x ∙ ap (λ (y : Float). with_sum y x) h ∙ add_nan_left x)

cells_lost : (s : Summary) (xs : List Float) → 0 < nans_in xs → (with_cells s xs).sum ≡ nan
cells_lost s [] h = absurd (omega arith)
cells_lost s (x ∷ xs) h = go (is_nan x) refl (cells_lost (with_cell s x) xs)
  where
    go : (b : Bool) → is_nan x ≡ b → (0 < nans_in xs → (with_cells (with_cell s x) xs).sum ≡ nan) → (with_cells (with_cell s x) xs).sum ≡ nan
    go true q f = stays_nan (with_cell s x) xs (step_sum s x ∙ ap (with_sum s.sum) (is_nan_lem x q) ∙ add_nan_right s.sum)
    go false q f = let g : 0 < cond {A = ℕ} false 1 0 + nans_in xs = subst (λ (b : Bool). 0 < cond b 1 0 + nans_in xs) q h in f (omega (arith, g))

-- A CELL THAT IS NOT A NUMBER makes the sum one
pub sum_lost : (xs : List Float) → 0 < nans_in xs → (summary_of xs).sum ≡ nan
unfolding summary_of
sum_lost xs h = cells_lost nothing_met xs h
