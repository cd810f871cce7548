-- Runs without gaps: the copy of their cells is one move of bytes.
-- Assumes nothing.
use mathlib.Core.Path.{◌≡◌, refl, sym, ap, ap₂, ◌∙◌, subst}
use mathlib.Core.List.{List}
use Prim.Native.Nat.{ℕ, zero, suc, ◌+◌, ◌-◌, ◌*◌, ◌≤◌, ◌<◌}
use native.Mathlib.Nat.{zero-mul, mul_comm}
use native.Mathlib.Numerals.{add-one}
use native.Mathlib.Omega.{arith}
use lib.Dec.{T}
use lib.IntN.{ℤ, pos, negsuc, nat_abs, ◌+ℤ◌, ◌*ℤ◌}
use lib.ListN.{length, take, drop}
use lib.Signed.{non_neg}
use borrow.Rule.Slice.PartMut.{put_mid}
use Rattle.cells.specs.declared.Side.{Side}
use Rattle.cells.specs.declared.patch.Patch.{Patch}
use Rattle.cells.specs.Copy.{moved, copied}
use Rattle.cells.specs.Patch.{place, run_cells, patch_cells}
use Rattle.cells.specs.Patched.{cells_of, copy_of, ReachIn, Packed}
use Rattle.cells.specs.Reaching.{run_spot, PatchIn}
use Rattle.cells.specs.Meaning.{moved_none, moved-add}
use Rattle.cells.proofs.Moving.{moved_slice}
use Rattle.cells.proofs.Running.{none_copied, cell_more, run_more}
use Rattle.cells.proofs.Patching.{patch_cell, patch_start}

-- steps up
up : (z t : ℤ) (i w : ℕ) → T (non_neg z) → t ≡ pos w → z +ℤ pos i *ℤ t ≡ pos (nat_abs z + i * w)
up (pos a) t i w h e = ap (λ (x : ℤ). pos a +ℤ pos i *ℤ x) e
up (negsuc a) t i w h e = absurd h

up_size : (z t : ℤ) (i w : ℕ) → T (non_neg z) → t ≡ pos w → nat_abs (z +ℤ pos i *ℤ t) ≡ nat_abs z + i * w
up_size z t i w h e = ap nat_abs (up z t i w h e)

-- where run j begins
abbrev pub begin : Side → ℕ → ℕ
begin o j = nat_abs (run_spot o j)

pub packed-place : (o : Side) (w i j : ℕ) → T (non_neg (run_spot o j)) → o.step0 ≡ pos w → place o i j ≡ begin o j + i * w
packed-place o w i j h e = up_size (run_spot o j) o.step0 i w h e

pub packed-begin : (o : Side) (b j : ℕ) → o.step1 ≡ pos b → begin o j ≡ o.first + j * b
packed-begin o b j e = up_size (pos o.first) o.step1 j b tt e

packed-from : (o : Side) (b j : ℕ) → o.step1 ≡ pos b → T (non_neg (run_spot o j))
packed-from o b j e = subst (λ (z : ℤ). T (non_neg z)) (sym (up (pos o.first) o.step1 j b tt e)) tt

one_more_lem : (n w : ℕ) → n * w + w ≡ (n + 1) * w
one_more_lem n w = omega arith

module _ (w : ℕ) (to from : Side) (dst src : List ℕ) (e : to.step0 ≡ pos w) (f : from.step0 ≡ pos w) where
  -- A RUN is one move
  pub packed-run : (j : ℕ) → T (non_neg (run_spot to j)) → T (non_neg (run_spot from j)) → (n : ℕ)
      → copied w (run_cells n to from j) dst src ≡ moved dst (begin to j) src (begin from j) (n * w)
  packed-run j a b zero =
      sym (none_copied w dst src) ∙ moved_none dst (begin to j) src (begin from j) ∙ ap (moved dst (begin to j) src (begin from j)) (sym (zero-mul w))
  packed-run j a b (suc n) =
      let s : n + 1 ≡ suc n = add-one n in
      sym (ap (λ (k : ℕ). copied w (run_cells k to from j) dst src) s)
      ∙ sym (cell_more w to from dst src j n refl refl)
      ∙ ap₂ (λ (x y : ℕ). moved (copied w (run_cells n to from j) dst src) x src y w) (packed-place to w n j a e) (packed-place from w n j b f)
      ∙ ap (λ (x : List ℕ). moved x (begin to j + n * w) src (begin from j + n * w) w) (packed-run j a b n)
      ∙ moved-add dst (begin to j) src (begin from j) (n * w) w
      ∙ ap (moved dst (begin to j) src (begin from j)) (one_more_lem n w ∙ ap (λ (k : ℕ). k * w) s)

module _ (w n0 : ℕ) (to from : Side) (dst src : List ℕ) (e : to.step0 ≡ pos w) (f : from.step0 ≡ pos w) (g : to.step1 ≡ pos (n0 * w)) (h : from.step1 ≡ pos (n0 * w)) where
  -- A PATCH is, where its runs follow each other
  pub packed-patch : (n1 : ℕ) → copied w (patch_cells n0 n1 to from) dst src ≡ moved dst to.first src from.first (n1 * (n0 * w))
  packed-patch zero =
      sym (patch_start w n0 to from dst src) ∙ moved_none dst to.first src from.first ∙ ap (moved dst to.first src from.first) (sym (zero-mul (n0 * w)))
  packed-patch (suc n) =
      let s : n + 1 ≡ suc n = add-one n in
      let b : ℕ = n0 * w in
      sym (ap (λ (k : ℕ). copied w (patch_cells n0 k to from) dst src) s)
      ∙ sym (run_more w to from dst src n0 n refl refl)
      ∙ packed-run w to from (copied w (patch_cells n0 n to from) dst src) src e f n (packed-from to b n g) (packed-from from b n h) n0
      ∙ ap₂ (λ (x y : ℕ). moved (copied w (patch_cells n0 n to from) dst src) x src y b) (packed-begin to b n g) (packed-begin from b n h)
      ∙ ap (λ (x : List ℕ). moved x (to.first + n * b) src (from.first + n * b) b) (packed-patch n)
      ∙ moved-add dst to.first src from.first (n * b) b
      ∙ ap (moved dst to.first src from.first) (one_more_lem n b ∙ ap (λ (k : ℕ). k * b) s)

-- ---- the bytes lie in the buffer

last_one : (n w : ℕ) → 0 < n → (n - 1) * w + w ≡ n * w
last_one zero w h = absurd (let z : ⊥ = omega arith in z)
last_one (suc n) w h =
    let e : suc n - 1 ≡ n = omega arith in
    ap (λ (k : ℕ). k * w + w) e ∙ one_more_lem n w ∙ ap (λ (k : ℕ). k * w) (add-one n)

module _ (w len n0 n1 : ℕ) (o : Side) (p : PatchIn w len n0 n1 o) (h0 : 0 < n0) (e : o.step0 ≡ pos w) where
  pub run-from : (j : ℕ) → j < n1 → T (non_neg (run_spot o j))
  run-from j l = (patch_cell w len n0 n1 o 0 j p h0 l).reaches.run-from

  pub run-bytes : (j : ℕ) → j < n1 → begin o j + n0 * w ≤ len
  run-bytes j l =
      let b : n0 - 1 < n0 = omega (arith, h0) in
      let c = (patch_cell w len n0 n1 o (n0 - 1) j p b l).inside in
      let q : place o (n0 - 1) j ≡ begin o j + (n0 - 1) * w = packed-place o w (n0 - 1) j (run-from j l) e in
      let r : (n0 - 1) * w + w ≡ n0 * w = last_one n0 w h0 in
      omega (arith, c, q, r)

  -- a run's first cell begins where the run does
  pub run-place : (j : ℕ) → j < n1 → place o 0 j ≡ begin o j
  run-place j l = packed-place o w 0 j (run-from j l) e ∙ (let z : begin o j + 0 * w ≡ begin o j = omega arith in z)

  pub patch-bytes : 0 < n1 → o.step1 ≡ pos (n0 * w) → o.first + n1 * (n0 * w) ≤ len
  patch-bytes h1 g =
      let b : n1 - 1 < n1 = omega (arith, h1) in
      let c = run-bytes (n1 - 1) b in
      let q : begin o (n1 - 1) ≡ o.first + (n1 - 1) * (n0 * w) = packed-begin o (n0 * w) (n1 - 1) g in
      let r : (n1 - 1) * (n0 * w) + n0 * w ≡ n1 * (n0 * w) = last_one n1 (n0 * w) h1 in
      omega (arith, c, q, r)

-- ---- a patch without gaps, as the code takes it

module _ (p : Patch) {dst src : List ℕ} (k : Packed p) (r : ReachIn p dst src) where
  pub run-long : p.n0 * p.width ≤ length dst
  run-long = omega (arith, run-bytes _ _ p.n0 p.n1 p.to r.to k.cells k.to 0 k.runs)

  module _ (f : (p.to.step1 ≡ pos (p.n0 * p.width)) × (p.from.step1 ≡ pos (p.n0 * p.width))) where
    turned : p.n0 * p.width * p.n1 ≡ p.n1 * (p.n0 * p.width)
    turned = mul_comm (p.n0 * p.width) p.n1

    pub whole-to : p.to.first + p.n0 * p.width * p.n1 ≤ length dst
    whole-to = omega (arith, turned, patch-bytes _ _ p.n0 p.n1 p.to r.to k.cells k.to k.runs f.0)

    pub whole-from : p.from.first + p.n0 * p.width * p.n1 ≤ length src
    whole-from = omega (arith, turned, patch-bytes _ _ p.n0 p.n1 p.from r.from k.cells k.from k.runs f.1)

    -- one move of bytes copies it
    pub whole-copied : {new : List ℕ} → new ≡ take (p.from.first + p.n0 * p.width * p.n1 - p.from.first) (drop p.from.first src)
        → put_mid p.to.first (p.to.first + p.n0 * p.width * p.n1 - p.to.first) dst new ≡ copy_of p (cells_of p) dst src
    whole-copied {new} e =
        moved_slice dst p.to.first src p.from.first (p.n0 * p.width * p.n1) whole-to whole-from new e
        ∙ ap (moved dst p.to.first src p.from.first) turned
        ∙ sym (packed-patch p.width p.n0 p.to p.from dst src k.to k.from f.0 f.1 p.n1)
