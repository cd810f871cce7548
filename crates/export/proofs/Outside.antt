-- ROW 17 IS EXACT: it applies exactly if some cell of an operand has a byte before its buffer or behind it.
-- Assumes nothing.
use Rattle.std.specs.Prelude.{◌≡◌, refl, ◌↔◌, Bool, true, false, cond, List, ℕ, zero, suc, ◌+◌, ◌*◌, ◌/◌, ◌≤◌, ◌<◌, T, ltb, ℤ, pos, negsuc, nat_abs, length, get_or}
use Rattle.std.proofs.Common.{sym, ◌∙◌, ⊎_elim, arith, ltb-true, lt-ltb}
use Rattle.std.proofs.lemmas.Bool.{false≢true, or_left, or_right}
use Rattle.std.specs.Int.Signed.{non_neg}
use Rattle.strided.specs.Layout.{stride_row, Within}
use Rattle.laws.specs.Base.Tests.{or_cases}
use Rattle.laws.specs.Base.Rows.{length_strides}
use Rattle.span.specs.Span.{in_cells}
use Rattle.span.specs.Exact.{test_outside, outside_test, cell_fits}
use Rattle.export.specs.Export.{offset_of, outside_at, row17}

-- all bytes of the cell at the offset z are bytes of the buffer
abbrev pub Fits : ℕ → ℕ → ℤ → Type 0
Fits size len z = T (non_neg z) × (nat_abs z * size + size ≤ len)

-- an operand, an index of the extents, and a cell of it that does not fit; `len k` is the length of operand k's buffer
pub record Leaving (es sizes : List ℕ) (ss zs : List ℤ) (len : ℕ → ℕ) : Type 0 where
  pub operand : ℕ
  pub there : operand < 2
  pub index : List ℕ
  pub inside : Within es index
  pub leaves : Fits (get_or sizes operand 0) (len operand) (offset_of es ss zs operand index) → ⊥

abbrev pub lengths : ℕ → ℕ → ℕ → ℕ
lengths to from k = cond (ltb k 1) to from

cell_leaves : (size len : ℕ) (z : ℤ) → 0 < size → in_cells (len / size) z ≡ false → Fits size len z → ⊥
cell_leaves size len (pos a) h e f =
    let b : (a + 1) * size ≤ len = let g = f.1 in omega (arith, g) in
    false≢true (sym e ∙ lt-ltb a (len / size) ((cell_fits a size len h).1 b))
cell_leaves size len (negsuc a) h e f = f.0

leaves_cell : (size len : ℕ) (z : ℤ) → 0 < size → (Fits size len z → ⊥) → in_cells (len / size) z ≡ false
leaves_cell size len (pos a) h n = go (ltb a (len / size)) refl
  where
    go : (b : Bool) → ltb a (len / size) ≡ b → ltb a (len / size) ≡ false
    go false e = e
    go true e = absurd (n (tt, (let b : (a + 1) * size ≤ len = (cell_fits a size len h).0 (ltb-true a (len / size) e) in omega (arith, b))))
leaves_cell size len (negsuc a) h n = refl

module _ (es sizes : List ℕ) (ss zs : List ℤ) (to from : ℕ) (many : length ss ≡ length es * length sizes) (two : length sizes ≡ 2)
    (some : (k : ℕ) → k < 2 → 0 < get_or sizes k 0) where
  long : (k : ℕ) → k < 2 → length (stride_row ss (length es) k) ≡ length es
  long k h = length_strides ss (length es) (length sizes) k many (let g : k < length sizes = omega (arith, two, h) in g)

  found : (k : ℕ) → k < 2 → outside_at es sizes ss zs k (lengths to from k) ≡ true → Leaving es sizes ss zs (lengths to from)
  found k h e =
      let o = test_outside es (stride_row ss (length es) k) (get_or zs k (pos 0)) (lengths to from k / get_or sizes k 0) (long k h) e in
      record {
        operand = k;
        there = h;
        index = o.index;
        inside = o.inside;
        leaves = cell_leaves (get_or sizes k 0) (lengths to from k) (offset_of es ss zs k o.index) (some k h) o.outside;
      }

  told : (l : Leaving es sizes ss zs (lengths to from)) → outside_at es sizes ss zs l.operand (lengths to from l.operand) ≡ true
  told l =
      outside_test es (stride_row ss (length es) l.operand) (get_or zs l.operand (pos 0)) (lengths to from l.operand / get_or sizes l.operand 0) (long l.operand l.there)
      (record {
        index = l.index;
        inside = l.inside;
        outside = leaves_cell (get_or sizes l.operand 0) (lengths to from l.operand) (offset_of es ss zs l.operand l.index) (some l.operand l.there) l.leaves;
      })

  pub row17_exact : ((row17 es sizes ss zs to from).applies ≡ true) ↔ Leaving es sizes ss zs (lengths to from)
  row17_exact = (there, back)
    where
      there : (row17 es sizes ss zs to from).applies ≡ true → Leaving es sizes ss zs (lengths to from)
      there e =
          ⊎_elim (λ a. found 0 (omega arith) a) (λ b. found 1 (omega arith) b)
          (or_cases (outside_at es sizes ss zs 0 to) (outside_at es sizes ss zs 1 from) e)

      pick : (k : ℕ) → k < 2 → outside_at es sizes ss zs k (lengths to from k) ≡ true → (row17 es sizes ss zs to from).applies ≡ true
      pick zero h e = or_left (outside_at es sizes ss zs 0 to) (outside_at es sizes ss zs 1 from) e
      pick (suc zero) h e = or_right (outside_at es sizes ss zs 0 to) (outside_at es sizes ss zs 1 from) e
      pick (suc (suc k)) h e = absurd (let z : ⊥ = omega arith in z)

      back : Leaving es sizes ss zs (lengths to from) → (row17 es sizes ss zs to from).applies ≡ true
      back l = pick l.operand l.there (told l)
