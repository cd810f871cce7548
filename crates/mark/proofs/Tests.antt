-- Row 6 of one operand, and what the rows that are passed say of it. Assumes nothing.
use mathlib.Core.Path.{◌≡◌, refl, sym, ap, ◌∙◌}
use mathlib.Core.Bool.{Bool, true, false, cond, ◌&&◌, not}
use mathlib.Core.List.{List}
use Prim.Native.Nat.{ℕ, ◌≤◌}
use native.Mathlib.Nat.{zero-mul}
use lib.Dec.{ltb}
use lib.IntN.{ℤ}
use lib.ListN.{length, take, drop}
use lib.Seq.{take-length}
use borrow.Author.Tests.{ltb-false}
use Rattle.strided.specs.Base.{some_of}
use Rattle.strided.specs.Layout.{has_zero, reach, max_i}
use Rattle.strided.specs.Refusals.{row6}
use Rattle.layout.specs.Rows.{row_at}
use Rattle.laws.specs.Refusals.Rows.{unless-passes}

some_one : (t : ℕ → Bool) → some_of t 0 1 ≡ t 0
unfolding some_of
some_one t = go (t 0)
  where
    go : (b : Bool) → cond b true false ≡ b
    go true = refl
    go false = refl

-- all strides are one operand's
whole_row : (es : List ℕ) (ts : List ℤ) (pitch : ℕ) → length ts ≡ length es → row_at es ts pitch 0 ≡ ts
whole_row es ts pitch l = ap (λ (k : ℕ). take (length es) (drop k ts)) (zero-mul pitch) ∙ ap (λ (n : ℕ). take n ts) (sym l) ∙ take-length ts

module _ (es : List ℕ) (ts : List ℤ) (l : length ts ≡ length es) where
  pub row6-one : (pitch : ℕ) → (row6 es 1 (row_at es ts pitch)).applies ≡ (row6 es 1 (λ k. ts)).applies
  row6-one pitch = ap (λ (b : Bool). not (has_zero es) && b)
      (some_one (λ k. ltb max_i (reach es (row_at es ts pitch k)))
      ∙ ap (λ (r : List ℤ). ltb max_i (reach es r)) (whole_row es ts pitch l)
      ∙ sym (some_one (λ k. ltb max_i (reach es ts))))

  pub row6-within : (row6 es 1 (λ k. ts)).applies ≡ false → has_zero es ≡ false → reach es ts ≤ max_i
  row6-within h z =
      ltb-false max_i (reach es ts) (sym (some_one (λ k. ltb max_i (reach es ts))) ∙ unless-passes (has_zero es) (some_of (λ k. ltb max_i (reach es ts)) 0 1) h z)
