-- The lines of a stretch, while they are handed on: what is left of them before block j, and that block's line.
-- Assumes nothing.
use mathlib.Core.Path.{◌≡◌, sym, ap, ap₂, ◌∙◌}
use mathlib.Core.List.{List, [], ◌∷◌, ◌++◌, map}
use Prim.Native.Nat.{ℕ, suc, ◌+◌, ◌-◌, ◌≤◌, ◌<◌}
use native.Mathlib.Nat.{add-zero}
use native.Mathlib.Omega.{arith}
use lib.IntN.{ℤ}
use lib.ListN.{take}
use Rattle.strided.specs.Base.{run}
use Rattle.strided.specs.Text.{line_of, block_line}
use Rattle.walker.specs.Stretch.{Stretch, block_in, laid, RowsFit}
use Rattle.walker.specs.Way.{added, MayMove}
use Rattle.walker.proofs.Rows.{RowIs, row_none, row-may, row_next, row_list}
use Rattle.writing.specs.Line.{fields_of}
use Rattle.writing.specs.Plan.{lines_from}
use Rattle.writing.proofs.Lines.{block_is}

-- `count` blocks of `size` cells each, whose first offsets are `o`
abbrev stretch : ℕ → ℕ → ℕ → List ℤ → List ℤ → Stretch
stretch count size operands d o = record { offsets = take operands o; length = size; count = count; moves = take operands d }

-- the lines from block j on
abbrev pub lines_at : ℕ → ℕ → ℕ → ℕ → List ℤ → List ℤ → ℕ → List ℕ
lines_at count size number operands d o j = lines_from (number + j) (map (block_in (stretch count size operands d o)) (run j (count - j)))

-- before block j: its offsets, if there is one
pub record Before (count operands : ℕ) (d o₀ : List ℤ) (j : ℕ) (o : List ℤ) : Type 0 where
  pub most : j ≤ count
  pub row : j < count → RowIs j operands d o₀ o

module _ (count size number operands : ℕ) (d o : List ℤ) where
  pub lines_all : lines_at count size number operands d o 0 ≡ lines_from number (laid (stretch count size operands d o))
  lines_all =
      let c : count - 0 ≡ count = omega arith in
      ap₂ (λ (n m : ℕ). lines_from n (map (block_in (stretch count size operands d o)) (run 0 m))) (add-zero number) c

module _ {count operands : ℕ} {d o₀ : List ℤ} (f : RowsFit count operands d o₀) where
  pub before-first : Before count operands d o₀ 0 o₀
  before-first = record { most = omega arith; row = λ h. row_none f }

  module _ {j : ℕ} {o : List ℤ} (k : Before count operands d o₀ j o) (h : j < count) where
    -- its line comes next
    row_line : (size number : ℕ) → lines_at count size number operands d o₀ j ≡ block_line (number + j) size (take operands o) ++ lines_at count size number operands d o₀ (j + 1)
    row_line size number =
        let S = stretch count size operands d o₀ in
        let c : count - j ≡ suc (count - (j + 1)) = omega arith in
        let a : suc j ≡ j + 1 = omega arith in
        let b : suc (number + j) ≡ number + (j + 1) = omega arith in
        ap (λ (m : ℕ). lines_from (number + j) (map (block_in S) (run j m))) c
        ∙ ap₂ (λ (os : List ℤ) (n : ℕ). block_line (number + j) size os ++ lines_from n (map (block_in S) (run (suc j) (count - (j + 1))))) (sym (row_list f (k.row h))) b
        ∙ ap (λ (i : ℕ). block_line (number + j) size (take operands o) ++ lines_from (number + (j + 1)) (map (block_in S) (run i (count - (j + 1))))) a

    -- as it is made
    pub row_first : (size number : ℕ) (os : List ℤ) → os ≡ take operands o
        → lines_at count size number operands d o₀ j ≡ line_of 66 (fields_of ((number + j) ∷ size ∷ []) os) ++ lines_at count size number operands d o₀ (j + 1)
    row_first size number os e =
        row_line size number
        ∙ ap (λ (l : List ℕ). l ++ lines_at count size number operands d o₀ (j + 1)) (sym (block_is (number + j) size os ∙ ap (block_line (number + j) size) e))

    -- on to the block behind it
    pub may_on : j + 1 < count → MayMove operands d o
    may_on = row-may f (k.row h)

    pub before-next : {o' : List ℤ} → o' ≡ added operands d o → Before count operands d o₀ (j + 1) o'
    before-next e = record { most = omega (arith, h); row = λ g. row_next f (k.row h) e }

    -- or there is none
    pub before_end : count ≤ j + 1 → Before count operands d o₀ (j + 1) o
    before_end g = record { most = omega (arith, h); row = λ b. absurd (let z : ⊥ = omega (arith, g, b) in z) }
