-- A patch, run by run or four runs at a time: what lies in the buffers, what the loops keep.
-- Assumes nothing.
use mathlib.Core.Path.{◌≡◌, sym, ap, ◌∙◌, subst}
use mathlib.Core.List.{List, ◌++◌}
use Prim.Native.Nat.{ℕ, ◌+◌, ◌≤◌, ◌<◌}
use native.Mathlib.Nat.{zero-add}
use native.Mathlib.Omega.{arith}
use Rattle.strided.specs.Base.{over, run}
use Rattle.laws.specs.Base.Lists.{run-append, over-append}
use Rattle.cells.specs.declared.Side.{Side}
use Rattle.cells.specs.declared.patch.Patch.{Patch}
use Rattle.cells.specs.Copy.{Pair, copied, In, Apart}
use Rattle.cells.specs.Meaning.{copied_none, apart_some}
use Rattle.cells.specs.Patch.{run_cells, patch_cells}
use Rattle.cells.specs.Patched.{ReachIn}
use Rattle.cells.specs.Patches.{patch_none, patch_each}
use Rattle.cells.specs.Reaching.{CellIn, RunIn, RunsIn, PatchIn, runs_from}
use Rattle.cells.proofs.Running.{as_long, then_copied}
use Rattle.cells.proofs.Crossing.{runs_only}

pub patch_cell : (w len n0 n1 : ℕ) (o : Side) (i j : ℕ) → PatchIn w len n0 n1 o → i < n0 → j < n1 → CellIn w len o i j
unfolding PatchIn
patch_cell w len n0 n1 o i j h a b = h i j a b

pub patch-run : (w len n0 n1 : ℕ) (o : Side) (j : ℕ) → PatchIn w len n0 n1 o → j < n1 → RunIn w len n0 j o
unfolding PatchIn RunIn
patch-run w len n0 n1 o j h b i a = h i j a b

pub patch_runs : (w len n0 n1 : ℕ) (o : Side) (j count : ℕ) → PatchIn w len n0 n1 o → j + count ≤ n1 → RunsIn w len n0 j count o
unfolding PatchIn RunsIn
patch_runs w len n0 n1 o j count h b i k a l = h i (j + k) a (omega (arith, b, l))

-- the copy so far is as long as before, so that the rest lies in it
pub still_in : (p : Patch) (ps : List Pair) (dst src : List ℕ) {mid : List ℕ} → ReachIn p dst src → mid ≡ copied p.width ps dst src → ReachIn p mid src
still_in p ps dst src r e = record { to = subst (λ (len : ℕ). PatchIn p.width len p.n0 p.n1 p.to) (sym (as_long p.width ps dst src e)) r.to; from = r.from }

pub patch_start : (w n0 : ℕ) (to from : Side) (dst src : List ℕ) → dst ≡ copied w (patch_cells n0 0 to from) dst src
patch_start w n0 to from dst src = sym (ap (λ (ps : List Pair). copied w ps dst src) (patch_none n0 to from) ∙ copied_none w dst src)

module _ (n0 : ℕ) (to from : Side) where
  patch-add : (j count : ℕ) → patch_cells n0 (j + count) to from ≡ patch_cells n0 j to from ++ runs_from n0 j count to from
  unfolding patch_cells runs_from
  patch-add j count =
      let z : 0 + j ≡ j = zero-add j in
      ap (λ (l : List ℕ). over l (run_cells n0 to from)) (run-append j count 0 ∙ ap (λ (k : ℕ). run 0 j ++ run k count) z)
      ∙ over-append (run 0 j) (run j count) (run_cells n0 to from)

  -- some runs more
  pub runs_more : (w : ℕ) (dst src : List ℕ) (j count : ℕ) {mid out : List ℕ}
      → mid ≡ copied w (patch_cells n0 j to from) dst src → out ≡ copied w (runs_from n0 j count to from) mid src
      → out ≡ copied w (patch_cells n0 (j + count) to from) dst src
  runs_more w dst src j count e f =
      then_copied w (patch_cells n0 j to from) (runs_from n0 j count to from) dst src e f
      ∙ ap (λ (ps : List Pair). copied w ps dst src) (sym (patch-add j count))

  -- they lie apart as the patch does
  pub runs_apart : (w n1 j count : ℕ) → j + count ≤ n1 → Apart w (patch_cells n0 n1 to from) → Apart w (runs_from n0 j count to from)
  runs_apart w n1 j count h u = apart_some w (patch_cells n0 n1 to from) (runs_from n0 j count to from) part u
    where
      part : (p : Pair) → In p (runs_from n0 j count to from) → In p (patch_cells n0 n1 to from)
      part p m =
          let o = runs_only n0 j count to from p m in
          let b = o.4 in
          subst (λ (q : Pair). In q (patch_cells n0 n1 to from)) (sym o.5) (patch_each n0 to from n1 o.0 o.1 o.2 (omega (arith, h, b)))
