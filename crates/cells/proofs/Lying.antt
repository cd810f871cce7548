-- A patch that lies in a buffer reaches each of its cells within 64-bit signed; and one of no cells leaves the destination as it is.
-- Assumes nothing.
use mathlib.Core.Path.{◌≡◌, refl, sym, ap, ◌∙◌, subst}
use mathlib.Core.List.{List, []}
use Prim.Native.Nat.{ℕ, zero, suc, ◌^◌, ◌<◌}
use native.Mathlib.Omega.{arith}
use lib.IntN.{ℤ, pos, ◌+ℤ◌, ◌*ℤ◌, zero-*ℤ, +ℤ_idr}
use lib.ListN.{length}
use Rattle.strided.specs.Base.{over, run}
use Rattle.cells.specs.declared.Side.{Side}
use Rattle.cells.specs.declared.patch.Patch.{Patch}
use Rattle.cells.specs.Copy.{Pair, copied}
use Rattle.cells.specs.Patch.{spot, run_cells, patch_cells, Inside, Lies}
use Rattle.cells.specs.Patched.{LieIn, ReachIn}
use Rattle.cells.specs.Reaching.{run_spot, PatchIn}
use Rattle.cells.proofs.Running.{none_copied}
use Rattle.cells.proofs.Patching.{patch_start}

pub still : (z t : ℤ) → z +ℤ pos 0 *ℤ t ≡ z
still z t = ap (λ (x : ℤ). z +ℤ x) (zero-*ℤ t) ∙ +ℤ_idr z

pub lies_in : (w len n0 n1 : ℕ) (o : Side) → Lies w len n0 n1 o → len < 2 ^ 63 → n0 < 2 ^ 63 → n1 < 2 ^ 63 → PatchIn w len n0 n1 o
unfolding Lies PatchIn
lies_in w len n0 n1 o h l m n i j a b =
    let p0 : 0 < n0 = omega (arith, a) in
    let p1 : 0 < n1 = omega (arith, b) in
    let first : Inside w len (pos o.first) = subst (Inside w len) (still (run_spot o 0) o.step0 ∙ still (pos o.first) o.step1) (h 0 0 p0 p1) in
    let begins : Inside w len (run_spot o j) = subst (Inside w len) (still (run_spot o j) o.step0) (h 0 j p0 b) in
    let cell : Inside w len (spot o i j) = h i j a b in
    record {
      reaches = record {
        first = let f = first.to in omega (arith, f, l);
        along = omega (arith, a, m);
        across = omega (arith, b, n);
        run-from = begins.from;
        run_to = let f = begins.to in omega (arith, f, l);
        from = cell.from;
        to = let f = cell.to in omega (arith, f, l);
      };
      inside = cell.to;
    }

-- both sides of a patch
pub lies_both : (p : Patch) (dst src : List ℕ) → LieIn p dst src → length dst < 2 ^ 63 → length src < 2 ^ 63 → ReachIn p dst src
lies_both p dst src h l m = record {
  to = lies_in p.width (length dst) p.n0 p.n1 p.to h.to l p.few.0 p.few.1;
  from = lies_in p.width (length src) p.n0 p.n1 p.from h.from m p.few.0 p.few.1;
}

no_cells : (n1 s : ℕ) (to from : Side) → over (run s n1) (run_cells 0 to from) ≡ []
no_cells zero s to from = refl
no_cells (suc n1) s to from = no_cells n1 (suc s) to from

pub no_cell : (w n0 n1 : ℕ) (to from : Side) (dst src : List ℕ) → n0 ≡ 0 → dst ≡ copied w (patch_cells n0 n1 to from) dst src
unfolding patch_cells
no_cell w n0 n1 to from dst src e =
    none_copied w dst src
    ∙ ap (λ (ps : List Pair). copied w ps dst src) (sym (ap (λ (n : ℕ). patch_cells n n1 to from) e ∙ no_cells n1 0 to from))

pub no_run : (w n0 n1 : ℕ) (to from : Side) (dst src : List ℕ) → n1 ≡ 0 → dst ≡ copied w (patch_cells n0 n1 to from) dst src
no_run w n0 n1 to from dst src e =
    patch_start w n0 to from dst src ∙ ap (λ (n : ℕ). copied w (patch_cells n0 n to from) dst src) (sym e)
