-- Laws of a plan's output: the A lines out of the plan's arrays, and the parts of the whole.
-- Assumes nothing.
use mathlib.Core.Path.{◌≡◌, refl, sym, ap, ap₂, ◌∙◌}
use mathlib.Core.List.{List, [], ◌∷◌, ◌++◌, map}
use Prim.Native.Nat.{ℕ, zero, suc, ◌+◌, ◌-◌, ◌*◌, ◌≤◌, ◌<◌}
use native.Mathlib.Numerals.{add-one}
use native.Mathlib.Omega.{arith}
use lib.IntN.{ℤ, pos}
use lib.ListN.{length, get_or, take, drop, replicate, length-take, length-replicate, length-map}
use lib.Seq.{ext_get_or, get_or-take, get_or-drop}
use Rattle.strided.specs.Base.{over, run}
use Rattle.strided.specs.Begin.{plan_row, plan_rows}
use Rattle.strided.specs.Text.{line_of, rank_line, axis_line, axis_of, printed_plan}
use Rattle.strided.specs.declared.Plan.{Plan}
use Rattle.laws.specs.Base.Lists.{length_run, get_d_run}
use Rattle.advance.specs.Filled.{filled_length, filled_at}
use Rattle.writing.specs.Line.{fields_of}
use Rattle.writing.specs.Plan.{axis_at, rest_from}
use Rattle.writing.proofs.Lines.{axis_is}
use Rattle.advance.specs.Blocks.{stride_on, column_to}

-- ---- the A lines

column_long : (axis : ℕ) (s : List ℤ) (n : ℕ) → length (column_to axis s n) ≡ 8
column_long axis s n = filled_length (replicate 8 (pos 0)) (stride_on axis s) n ∙ length-replicate {A = ℤ} 8 (pos 0)

column_counted : (axis : ℕ) (s : List ℤ) (n : ℕ) → n ≤ 8 → take n (column_to axis s n) ≡ map (stride_on axis s) (run 0 n)
column_counted axis s n h =
    let eight : length {A = ℤ} (replicate 8 (pos 0)) ≡ 8 = length-replicate {A = ℤ} 8 (pos 0) in
    let l = length-take n (column_to axis s n) in
    let m = column_long axis s n in
    let many : length (take n (column_to axis s n)) ≡ n = omega arith in
    ext_get_or (pos 0) (take n (column_to axis s n)) (map (stride_on axis s) (run 0 n))
    (many ∙ sym (length-map (run 0 n) (stride_on axis s) ∙ length_run 0 n))
    (λ j l.
    let k : j < n = omega arith in
    let z : 0 + j ≡ j = omega arith in
    get_or-take n (column_to axis s n) j (pos 0) k
    ∙ filled_at (replicate 8 (pos 0)) (stride_on axis s) (pos 0) n j k (omega arith)
    ∙ sym (get_d_run (stride_on axis s) (pos 0) n 0 j k ∙ ap (stride_on axis s) z))

module _ (p : Plan) where
  -- the line that it makes
  pub axis_lent : (axis : ℕ) {strides : List ℤ} → strides ≡ column_to axis p.strides p.operands → p.operands ≤ 8
      → axis_line axis (get_or p.extents axis 0) (get_or p.blocks axis 0) (take p.operands strides) ≡ axis_at p axis
  axis_lent axis q h =
      ap (axis_line axis (get_or p.extents axis 0) (get_or p.blocks axis 0)) (ap (take p.operands) q ∙ column_counted axis p.strides p.operands h)

  column_of : (i : ℕ) → i < p.rank → (l : List ℕ) → map (λ ts. get_or ts i (pos 0)) (map (plan_row p) l) ≡ map (stride_on i p.strides) l
  column_of i h [] = refl
  column_of i h (k ∷ l) =
      ap₂ (λ (x : ℤ) (r : List ℤ). x ∷ r)
      (get_or-take p.rank (drop (k * 64) p.strides) i (pos 0) h ∙ get_or-drop (k * 64) p.strides i (pos 0)) (column_of i h l)

  axis_of_lem : (i : ℕ) → i < p.rank → axis_of p i ≡ axis_at p i
  axis_of_lem i h =
      ap₂ (λ (e b : ℕ). axis_line i e b (map (λ ts. get_or ts i (pos 0)) (plan_rows p))) (get_or-take p.rank p.extents i 0 h) (get_or-take p.rank p.blocks i 0 h)
      ∙ ap (axis_line i (get_or p.extents i 0) (get_or p.blocks i 0)) (column_of i h (run 0 p.operands))

  axes_of_lem : (n s : ℕ) → s + n ≤ p.rank → over (run s n) (axis_of p) ≡ over (run s n) (axis_at p)
  axes_of_lem zero s h = refl
  axes_of_lem (suc n) s h = ap₂ (λ (x r : List ℕ). x ++ r) (axis_of_lem s (omega arith)) (axes_of_lem n (suc s) (omega arith))

  -- the whole output, in the order it is written
  pub printed_parts : printed_plan p ≡ rank_line p.rank ++ (over (run 0 p.rank) (axis_at p) ++ rest_from p 0)
  unfolding printed_plan rest_from
  printed_parts = ap (λ (l : List ℕ). rank_line p.rank ++ (l ++ rest_from p 0)) (axes_of_lem p.rank 0 (omega arith))

-- ---- a loop from 0 to n, at i

pub run_at : {A : Type 0} (f : ℕ → List A) (i n : ℕ) → i < n → over (run i (n - i)) f ≡ f i ++ over (run (i + 1) (n - (i + 1))) f
run_at f i n h =
    let e : n - i ≡ suc (n - (i + 1)) = omega arith in
    ap (λ (m : ℕ). over (run i m) f) e ∙ ap (λ (j : ℕ). f i ++ over (run j (n - (i + 1))) f) (sym (add-one i))

pub run_out : {A : Type 0} (f : ℕ → List A) (i n : ℕ) → n ≤ i → over (run i (n - i)) f ≡ []
run_out f i n h = let e : n - i ≡ 0 = omega arith in ap (λ (m : ℕ). over (run i m) f) e

-- before axis i its line comes next, as it is made
pub line_first : (p : Plan) (i : ℕ) → i < p.rank → (E B : List ℕ) (ts : List ℤ) → axis_line i (get_or E i 0) (get_or B i 0) ts ≡ axis_at p i
    → over (run i (p.rank - i)) (axis_at p) ≡ line_of 65 (fields_of (i ∷ get_or E i 0 ∷ get_or B i 0 ∷ []) ts) ++ over (run (i + 1) (p.rank - (i + 1))) (axis_at p)
line_first p i h E B ts e =
    run_at (axis_at p) i p.rank h ∙ ap (λ (l : List ℕ). l ++ over (run (i + 1) (p.rank - (i + 1))) (axis_at p)) (sym (axis_is i (get_or E i 0) (get_or B i 0) ts ∙ e))
