-- Runs copied side by side: the same cells in another order, and so the same bytes.
-- Assumes nothing.
use mathlib.Core.Path.{◌≡◌, refl, sym, ap, ◌∙◌, subst}
use mathlib.Core.List.{List, [], ◌∷◌, ◌++◌, map, map-append}
use Prim.Native.Nat.{ℕ, ◌+◌, ◌-◌, ◌≤◌, ◌<◌}
use native.Mathlib.Nat.{add-zero, zero-add}
use native.Mathlib.Omega.{arith}
use lib.ListN.{length}
use Rattle.strided.specs.Base.{over, run}
use Rattle.laws.specs.Base.Lists.{run-append, over_last}
use Rattle.cells.specs.declared.Side.{Side}
use Rattle.cells.specs.Copy.{Pair, pair, moved, copied, In, Same, AllIn, Apart}
use Rattle.cells.specs.Meaning.{copied-same, copied-one, to_eq, from_eq}
use Rattle.cells.specs.Patch.{place, cell_at, run_cells}
use Rattle.cells.specs.Patches.{map_each, map_only, over_each, over_only, run_in_lem, run-within, run_each, run_only}
use Rattle.cells.specs.Reaching.{CellIn, RunsIn, runs_from, across, crossing}
use Rattle.cells.proofs.Running.{as_long, then_copied}

-- ---- where runs lie

pub runs_cell : (w len n j count : ℕ) (o : Side) (i k : ℕ) → RunsIn w len n j count o → i < n → k < count → CellIn w len o i (j + k)
unfolding RunsIn
runs_cell w len n j count o i k h l b = h i k l b

pub runs_first : (w len n j count : ℕ) (o : Side) (i : ℕ) → RunsIn w len n j count o → i < n → 0 < count → CellIn w len o i j
runs_first w len n j count o i h l b = subst (CellIn w len o i) (add-zero j) (runs_cell w len n j count o i 0 h l b)

pub runs_fewer : (w len n j count : ℕ) (o : Side) (m : ℕ) → RunsIn w len n j count o → m ≤ n → RunsIn w len m j count o
unfolding RunsIn
runs_fewer w len n j count o m h l i k a b = h i k (omega (arith, l, a)) b

-- in a copy so far, which is as long as before
pub still_runs : (w n j count : ℕ) (o : Side) (ps : List Pair) (dst src : List ℕ) {mid : List ℕ} → RunsIn w (length dst) n j count o → mid ≡ copied w ps dst src
    → RunsIn w (length mid) n j count o
still_runs w n j count o ps dst src h e = subst (λ (len : ℕ). RunsIn w len n j count o) (sym (as_long w ps dst src e)) h

-- ---- cell by cell

pub across_first : (w j : ℕ) (to from : Side) (i : ℕ) (dst src : List ℕ) {out : List ℕ}
    → out ≡ moved dst (place to i j) src (place from i j) w → out ≡ copied w (across j 1 to from i) dst src
across_first w j to from i dst src e = e ∙ sym (copied-one w (place to i j) (place from i j) dst src)

pub across_more : (w j : ℕ) (to from : Side) (i : ℕ) (dst src : List ℕ) (k : ℕ) {mid out : List ℕ}
    → mid ≡ copied w (across j k to from i) dst src → out ≡ moved mid (place to i (j + k)) src (place from i (j + k)) w
    → out ≡ copied w (across j (k + 1) to from i) dst src
across_more w j to from i dst src k {mid} e f =
    then_copied w (across j k to from i) (cell_at to from (j + k) i ∷ []) dst src e (f ∙ sym (copied-one w (place to i (j + k)) (place from i (j + k)) mid src))
    ∙ ap (λ (ps : List Pair). copied w ps dst src)
    (sym (ap (map (λ (x : ℕ). cell_at to from x i)) (run-append k 1 j) ∙ map-append (λ (x : ℕ). cell_at to from x i) (run j k) ((j + k) ∷ [])))

pub crossing_more : (w j count : ℕ) (to from : Side) (dst src : List ℕ) (n : ℕ) {mid out : List ℕ}
    → mid ≡ copied w (crossing n j count to from) dst src → out ≡ copied w (across j count to from n) mid src
    → out ≡ copied w (crossing (n + 1) j count to from) dst src
unfolding crossing
crossing_more w j count to from dst src n e f =
    let z : 0 + n ≡ n = zero-add n in
    then_copied w (crossing n j count to from) (across j count to from n) dst src e f
    ∙ ap (λ (ps : List Pair). copied w ps dst src)
    (sym (ap (λ (l : List ℕ). over l (across j count to from)) (run-append n 1 0 ∙ ap (λ (k : ℕ). run 0 n ++ (k ∷ [])) z) ∙ over_last (run 0 n) n (across j count to from)))

pub crossing_none : (w j count : ℕ) (to from : Side) (dst src : List ℕ) → dst ≡ copied w (crossing 0 j count to from) dst src
unfolding crossing copied
crossing_none w j count to from dst src = refl

-- ---- the same cells

module _ (n j count : ℕ) (to from : Side) where
  pub runs_each : (i k : ℕ) → i < n → j ≤ k → k < j + count → In (cell_at to from k i) (runs_from n j count to from)
  unfolding runs_from
  runs_each i k h a b = over_each (cell_at to from k i) (run j count) (run_cells n to from) k (run_in_lem count j k a b) (run_each n to from i k h)

  pub runs_only : (p : Pair) → In p (runs_from n j count to from) → (i k : ℕ) × (i < n) × (j ≤ k) × (k < j + count) × (p ≡ cell_at to from k i)
  unfolding runs_from
  runs_only p m =
      let o = over_only p (run j count) (run_cells n to from) m in
      let r = run_only n to from o.0 p o.2 in
      let b = run-within count j o.0 o.1 in
      (r.0, o.0, r.1, b.0, b.1, r.2)

  crossing_each : (i k : ℕ) → i < n → j ≤ k → k < j + count → In (cell_at to from k i) (crossing n j count to from)
  unfolding crossing
  crossing_each i k h a b =
      over_each (cell_at to from k i) (run 0 n) (across j count to from) i (run_in_lem n 0 i (omega arith) (omega (arith, h)))
      (map_each (λ (x : ℕ). cell_at to from x i) (run j count) k (run_in_lem count j k a b))

  crossing_only : (p : Pair) → In p (crossing n j count to from) → (i k : ℕ) × (i < n) × (j ≤ k) × (k < j + count) × (p ≡ cell_at to from k i)
  unfolding crossing
  crossing_only p m =
      let o = over_only p (run 0 n) (across j count to from) m in
      let r = map_only (λ (x : ℕ). cell_at to from x o.0) (run j count) p o.2 in
      let b = run-within count j r.0 r.1 in
      let a : o.0 < 0 + n = (run-within n 0 o.0 o.1).1 in
      (o.0, r.0, (let g : o.0 < n = omega (arith, a) in g), b.0, b.1, r.2)

  crossing-same : Same (runs_from n j count to from) (crossing n j count to from)
  crossing-same p = (there, back)
    where
      there : In p (runs_from n j count to from) → In p (crossing n j count to from)
      there m = let o = runs_only p m in subst (λ (q : Pair). In q (crossing n j count to from)) (sym o.5) (crossing_each o.0 o.1 o.2 o.3 o.4)

      back : In p (crossing n j count to from) → In p (runs_from n j count to from)
      back m = let o = crossing_only p m in subst (λ (q : Pair). In q (runs_from n j count to from)) (sym o.5) (runs_each o.0 o.1 o.2 o.3 o.4)

  module _ (w : ℕ) (dst src : List ℕ) (f : RunsIn w (length dst) n j count to) (g : RunsIn w (length src) n j count from) where
    runs_in : AllIn w (length dst) (length src) (runs_from n j count to from)
    runs_in d s m =
        let o = runs_only (pair d s) m in
        let e : j + (o.1 - j) ≡ o.1 = (let a = o.3 in omega (arith, a)) in
        let b : o.1 - j < count = (let a = o.3 in let c = o.4 in omega (arith, a, c)) in
        let x : CellIn w (length dst) to o.0 o.1 = subst (CellIn w (length dst) to o.0) e (runs_cell w (length dst) n j count to o.0 (o.1 - j) f o.2 b) in
        let y : CellIn w (length src) from o.0 o.1 = subst (CellIn w (length src) from o.0) e (runs_cell w (length src) n j count from o.0 (o.1 - j) g o.2 b) in (
          subst (λ (z : ℕ). z + w ≤ length dst) (sym (to_eq o.5)) x.inside,
          subst (λ (z : ℕ). z + w ≤ length src) (sym (from_eq o.5)) y.inside,
        )

    -- SIDE BY SIDE OR ONE BY ONE, the same bytes
    pub crossing-copied : Apart w (runs_from n j count to from) → copied w (crossing n j count to from) dst src ≡ copied w (runs_from n j count to from) dst src
    crossing-copied u = sym (copied-same w (runs_from n j count to from) (crossing n j count to from) dst src runs_in u crossing-same)
