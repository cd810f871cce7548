-- Rows of the flat list of strides: operand k's strides are `rank` places from k * rank on. Assumes nothing.
use Rattle.std.specs.Prelude.{◌≡◌, List, ℕ, zero, suc, ◌+◌, ◌*◌, ◌≤◌, ◌<◌, ℤ, pos, length, get_or, take, drop}
use Rattle.std.proofs.Common.{ap, ◌∙◌, mul-le-mul_right, zero-mul, suc-mul, mul_comm, arith, length-take, length-drop, length-append, get_or-take, get_or-drop, take_at}
use Rattle.std.proofs.Math.Seq.{drop-append-add}
use Rattle.strided.specs.Base.{over, run}
use Rattle.strided.specs.Layout.{stride_row}

pub row_fits : (k rank operands : ℕ) → k < operands → k * rank + rank ≤ rank * operands
row_fits k rank operands h =
    let e : suc k * rank ≤ operands * rank = mul-le-mul_right rank h in
    omega (arith, suc-mul k rank, mul_comm operands rank)

pub length_strides : (ss : List ℤ) (rank operands k : ℕ) → length ss ≡ rank * operands → k < operands → length (stride_row ss rank k) ≡ rank
length_strides ss rank operands k e h = simp (length-take, length-drop) (omega (arith, row_fits k rank operands h))

-- place i of row k in the flat list
pub stride_at : (ss : List ℤ) (rank k i : ℕ) → i < rank → get_or (stride_row ss rank k) i (pos 0) ≡ get_or ss (k * rank + i) (pos 0)
stride_at ss rank k i h = get_or-take rank (drop (k * rank) ss) i (pos 0) h ∙ get_or-drop (k * rank) ss i (pos 0)

-- ---- rows one after the other in one list

module _ {A : Type 0} (r : ℕ) (f : ℕ → List A) where
  -- the rows from s on, m of them, have r places each
  abbrev Even : ℕ → ℕ → Type 0
  Even s m = (j : ℕ) → s ≤ j → j < s + m → length (f j) ≡ r

  later : (s m : ℕ) → Even s (suc m) → Even (suc s) m
  later s m h j a b = h j (omega arith) (omega arith)

  pub length_over : (m s : ℕ) → ((j : ℕ) → s ≤ j → j < s + m → length (f j) ≡ r) → length (over (run s m) f) ≡ m * r
  length_over zero s h = omega arith
  length_over (suc m) s h =
      omega (arith, length-append (f s) (over (run (suc s) m) f), h s (omega arith) (omega arith), length_over m (suc s) (later s m h), suc-mul m r)

  pub row-over : (m s k : ℕ) → ((j : ℕ) → s ≤ j → j < s + m → length (f j) ≡ r) → k < m → take r (drop (k * r) (over (run s m) f)) ≡ f (s + k)
  row-over zero s k h l = absurd (bad l)
    where
      bad : k < 0 → ⊥
      bad l = omega arith
  row-over (suc m) s zero h l =
      let e : s + 0 ≡ s = omega arith in
      rw (zero-mul r, e) (take_at (f s) (over (run (suc s) m) f) r (h s (omega arith) (omega arith)))
  row-over (suc m) s (suc k) h l =
      let e : suc k * r ≡ length (f s) + k * r = omega (arith, suc-mul k r, h s (omega arith) (omega arith)) in
      let g : s + suc k ≡ suc s + k = omega arith in
      rw (e, g) (ap (take r) (drop-append-add (f s) (over (run (suc s) m) f) (k * r)) ∙ row-over m (suc s) k (later s m h) (omega arith))
