-- What the loops over cells and runs keep: the copy so far, which is as long as before, and one more.
-- Assumes nothing.
use mathlib.Core.Path.{◌≡◌, sym, ap, ◌∙◌}
use mathlib.Core.List.{List, [], ◌∷◌, ◌++◌}
use Prim.Native.Nat.{ℕ, ◌+◌, ◌<◌}
use lib.ListN.{length}
use Rattle.cells.specs.declared.Side.{Side}
use Rattle.cells.specs.Copy.{Pair, moved, copied}
use Rattle.cells.specs.Meaning.{copied-append, copied_none, copied-one, copied-length}
use Rattle.cells.specs.Patch.{place, cell_at, run_cells, patch_cells}
use Rattle.cells.specs.Patches.{run-next, patch-next}
use Rattle.cells.specs.Reaching.{CellIn, RunIn}

pub none_copied : (w : ℕ) (dst src : List ℕ) → dst ≡ copied w [] dst src
none_copied w dst src = sym (copied_none w dst src)

-- the copy so far is as long as before
pub as_long : (w : ℕ) (ps : List Pair) (dst src : List ℕ) {mid : List ℕ} → mid ≡ copied w ps dst src → length mid ≡ length dst
as_long w ps dst src e = ap length e ∙ copied-length w ps dst src

-- more cells behind those that are copied
pub then_copied : (w : ℕ) (ps qs : List Pair) (dst src : List ℕ) {mid out : List ℕ}
    → mid ≡ copied w ps dst src → out ≡ copied w qs mid src → out ≡ copied w (ps ++ qs) dst src
then_copied w ps qs dst src e f = f ∙ ap (λ (xs : List ℕ). copied w qs xs src) e ∙ sym (copied-append w ps qs dst src)

module _ (w : ℕ) (to from : Side) (dst src : List ℕ) {mid out : List ℕ} where
  pub cell_more : (j i : ℕ) → mid ≡ copied w (run_cells i to from j) dst src → out ≡ moved mid (place to i j) src (place from i j) w
      → out ≡ copied w (run_cells (i + 1) to from j) dst src
  cell_more j i e f =
      then_copied w (run_cells i to from j) (cell_at to from j i ∷ []) dst src e (f ∙ sym (copied-one w (place to i j) (place from i j) mid src))
      ∙ ap (λ (ps : List Pair). copied w ps dst src) (sym (run-next i to from j))

  pub run_more : (n0 j : ℕ) → mid ≡ copied w (patch_cells n0 j to from) dst src → out ≡ copied w (run_cells n0 to from j) mid src
      → out ≡ copied w (patch_cells n0 (j + 1) to from) dst src
  run_more n0 j e f = then_copied w (patch_cells n0 j to from) (run_cells n0 to from j) dst src e f ∙ ap (λ (ps : List Pair). copied w ps dst src) (sym (patch-next n0 to from j))

pub cell_in_lem : (w len n j : ℕ) (o : Side) (i : ℕ) → RunIn w len n j o → i < n → CellIn w len o i j
unfolding RunIn
cell_in_lem w len n j o i h l = h i l
