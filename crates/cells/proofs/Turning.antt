-- Runs that go down are gone along upwards from their last cells: the same cells in another order.
-- Assumes nothing.
use mathlib.Core.Path.{◌≡◌, sym, ap, ap₂, ◌∙◌, subst}
use mathlib.Core.List.{List}
use Prim.Native.Nat.{ℕ, zero, suc, ◌+◌, ◌-◌, ◌*◌, ◌<◌}
use native.Mathlib.Omega.{arith}
use lib.Dec.{T}
use lib.IntN.{ℤ, pos, neg_ℤ, nat_abs, ◌+ℤ◌, ◌*ℤ◌, +ℤ_assoc, +ℤ_idr, +ℤ_invl}
use lib.Signed.{non_neg, pos-nat_abs}
use lib.ListN.{length}
use Rattle.laws.specs.Base.Integers.{add-*ℤ, +ℤ-right-comm}
use Rattle.cells.specs.declared.Side.{Side}
use Rattle.cells.specs.Copy.{Pair, pair, copied, In, Same, Apart}
use Rattle.cells.specs.Meaning.{copied-same}
use Rattle.cells.specs.Patch.{spot, place, cell_at, patch_cells, Inside, Lies}
use Rattle.cells.specs.Patches.{patch_each, patch_only, patch_in}
use Rattle.cells.specs.Reaching.{turned}
use Rattle.cells.proofs.Lying.{still}

-- up and down again
undone : (i w : ℕ) → pos i *ℤ neg_ℤ (pos w) +ℤ pos i *ℤ pos w ≡ pos 0
undone i zero = ap pos (let z : i * 0 + i * 0 ≡ 0 = omega arith in z)
undone i (suc w) = +ℤ_invl (pos (i * suc w))

gathered : (f k d j i : ℤ) → d +ℤ i ≡ pos 0 → f +ℤ (k +ℤ d) +ℤ j +ℤ i ≡ f +ℤ j +ℤ k
gathered f k d j i e =
    ap (λ (x : ℤ). x +ℤ i) (+ℤ-right-comm f (k +ℤ d) j)
    ∙ +ℤ_assoc (f +ℤ j) (k +ℤ d) i
    ∙ ap (λ (x : ℤ). f +ℤ j +ℤ x) (+ℤ_assoc k d i ∙ ap (λ (x : ℤ). k +ℤ x) e ∙ +ℤ_idr k)

module _ (w len n0 n1 : ℕ) (o : Side) (l : Lies w len n0 n1 o) (h0 : 0 < n0) (h1 : 0 < n1) (e : o.step0 ≡ neg_ℤ (pos w)) where
  -- where the last cell of the first run begins
  last_from : T (non_neg (spot o (n0 - 1) 0))
  unfolding Lies
  last_from = (l (n0 - 1) 0 (let z : n0 - 1 < n0 = omega (arith, h0) in z) h1).from

  -- cell i of a run that is turned is the one as far from its end
  turned-spot : (i k j : ℕ) → k + i ≡ n0 - 1 → spot (turned n0 w o) i j ≡ spot o k j
  turned-spot i k j q =
      let s : ℤ = o.step0 in
      let f : ℤ = pos o.first in
      let m : pos (place o (n0 - 1) 0) ≡ f +ℤ (pos k *ℤ s +ℤ pos i *ℤ s) =
      pos-nat_abs (spot o (n0 - 1) 0) last_from
      ∙ ap (λ (x : ℤ). x +ℤ pos (n0 - 1) *ℤ s) (still f o.step1)
      ∙ ap (λ (n : ℕ). f +ℤ pos n *ℤ s) (sym q)
      ∙ ap (λ (x : ℤ). f +ℤ x) (add-*ℤ (pos k) (pos i) s) in
      let u : pos i *ℤ s +ℤ pos i *ℤ pos w ≡ pos 0 = ap (λ (x : ℤ). pos i *ℤ x +ℤ pos i *ℤ pos w) e ∙ undone i w in
      ap (λ (x : ℤ). x +ℤ pos j *ℤ o.step1 +ℤ pos i *ℤ pos w) m
      ∙ gathered f (pos k *ℤ s) (pos i *ℤ s) (pos j *ℤ o.step1) (pos i *ℤ pos w) u

  pub turned_lies : Lies w len n0 n1 (turned n0 w o)
  unfolding Lies
  turned_lies i j a b =
      let q : n0 - 1 - i + i ≡ n0 - 1 = omega (arith, a) in
      let c : n0 - 1 - i < n0 = omega (arith, h0) in
      subst (Inside w len) (sym (turned-spot i (n0 - 1 - i) j q)) (l (n0 - 1 - i) j c b)

  pub turned-place : (i k j : ℕ) → k + i ≡ n0 - 1 → place (turned n0 w o) i j ≡ place o k j
  turned-place i k j q = ap nat_abs (turned-spot i k j q)

module _ (w m n n0 n1 : ℕ) (to from : Side) (f : Lies w m n0 n1 to) (g : Lies w n n0 n1 from) (h0 : 0 < n0) (h1 : 0 < n1)
    (d : to.step0 ≡ neg_ℤ (pos w)) (e : from.step0 ≡ neg_ℤ (pos w)) where
  abbrev up : Side
  up = turned n0 w to

  abbrev back : Side
  back = turned n0 w from

  turned_cell : (i k j : ℕ) → k + i ≡ n0 - 1 → cell_at up back j i ≡ cell_at to from j k
  turned_cell i k j q = ap₂ pair (turned-place w m n0 n1 to f h0 h1 d i k j q) (turned-place w n n0 n1 from g h0 h1 e i k j q)

  turned_same : Same (patch_cells n0 n1 to from) (patch_cells n0 n1 up back)
  turned_same p = (there, here)
    where
      there : In p (patch_cells n0 n1 to from) → In p (patch_cells n0 n1 up back)
      there x =
          let o = patch_only n0 to from n1 p x in
          let a = o.2 in
          let q : o.0 + (n0 - 1 - o.0) ≡ n0 - 1 = omega (arith, a) in
          let c : n0 - 1 - o.0 < n0 = omega (arith, h0) in
          subst (λ (y : Pair). In y (patch_cells n0 n1 up back)) (turned_cell (n0 - 1 - o.0) o.0 o.1 q ∙ sym o.4) (patch_each n0 up back n1 (n0 - 1 - o.0) o.1 c o.3)

      here : In p (patch_cells n0 n1 up back) → In p (patch_cells n0 n1 to from)
      here x =
          let o = patch_only n0 up back n1 p x in
          let a = o.2 in
          let q : n0 - 1 - o.0 + o.0 ≡ n0 - 1 = omega (arith, a) in
          let c : n0 - 1 - o.0 < n0 = omega (arith, h0) in
          subst (λ (y : Pair). In y (patch_cells n0 n1 to from)) (sym (turned_cell o.0 (n0 - 1 - o.0) o.1 q) ∙ sym o.4) (patch_each n0 to from n1 (n0 - 1 - o.0) o.1 c o.3)

-- UPWARDS OR DOWNWARDS, the same bytes
pub turned-copied : (w n0 n1 : ℕ) (to from : Side) (dst src : List ℕ) → Lies w (length dst) n0 n1 to → Lies w (length src) n0 n1 from → 0 < n0 → 0 < n1
    → to.step0 ≡ neg_ℤ (pos w) → from.step0 ≡ neg_ℤ (pos w) → Apart w (patch_cells n0 n1 to from)
    → copied w (patch_cells n0 n1 (turned n0 w to) (turned n0 w from)) dst src ≡ copied w (patch_cells n0 n1 to from) dst src
turned-copied w n0 n1 to from dst src f g h0 h1 d e u =
    sym (copied-same w (patch_cells n0 n1 to from) (patch_cells n0 n1 (turned n0 w to) (turned n0 w from)) dst src
    (patch_in w (length dst) (length src) n0 n1 to from f g) u
    (turned_same w (length dst) (length src) n0 n1 to from f g h0 h1 d e))
