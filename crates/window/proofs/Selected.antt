-- The strides of a selection, row by row: that of operand k on axis i stands at place k * rank + i. Assumes nothing.
use mathlib.Core.Path.{◌≡◌, refl, sym, ap, ap₂, ◌∙◌}
use mathlib.Core.Bool.{Bool, true, false, cond, not}
use mathlib.Core.List.{List}
use Prim.Native.Nat.{ℕ, zero, suc, ◌+◌, ◌*◌, ◌≤◌, ◌<◌}
use Rattle.std.proofs.Math.Nat.{mul_comm}
use Rattle.std.proofs.lemmas.Nat.{mul-add-lt, mod-mul-add}
use native.Mathlib.Nat.{add-zero, zero-mul, suc-mul}
use native.Mathlib.Omega.{arith}
use lib.IntN.{ℤ, pos}
use lib.ListN.{length, get_or}
use Rattle.std.proofs.lemmas.Bool.{not-false}
use Rattle.strided.specs.Base.{some_of}
use Rattle.strided.specs.Layout.{in_i64, stride_row}
use Rattle.laws.specs.Base.Rows.{length_strides, stride_at}
use Rattle.laws.specs.Refusals.Operands.{some_of_at}
use Rattle.window.specs.declared.selection.Selection.{Selection}
use Rattle.window.specs.Window.{stepped_stride, stride_over}
use Rattle.window.specs.Selected.{new_strides}
use Rattle.window.specs.Places.{window_length, window_at_lem, few_places}

-- the tests of n places from o on
pub some_moved : (t u : ℕ → Bool) (o n : ℕ) → ((i : ℕ) → i < n → u i ≡ t (o + i)) → some_of u 0 n ≡ some_of t o n
unfolding some_of
some_moved t u o zero h = refl
some_moved t u o (suc n) h =
    let e : 0 + n ≡ n = omega arith in
    ap₂ (λ (a b : Bool). cond a true b) (ap u e ∙ h n (omega arith)) (some_moved t u o n (λ i l. h i (omega arith)))

some_behind : (t : ℕ → Bool) (o n : ℕ) → some_of t 0 (o + n) ≡ cond (some_of t o n) true (some_of t 0 o)
unfolding some_of
some_behind t o zero = ap (some_of t 0) (add-zero o)
some_behind t o (suc n) =
    let e : o + suc n ≡ suc (o + n) = omega arith in
    let z : 0 + (o + n) ≡ o + n = omega arith in
    ap (some_of t 0) e ∙ ap₂ (λ (i : ℕ) (b : Bool). cond (t i) true b) z (some_behind t o n) ∙ either (t (o + n)) (some_of t o n) (some_of t 0 o)
  where
    either : (a b c : Bool) → cond a true (cond b true c) ≡ cond (cond a true b) true c
    either true b c = refl
    either false b c = refl

-- the tests of n rows of r places
pub some_rows : (t : ℕ → Bool) (r n : ℕ) → some_of (λ k. some_of t (k * r) r) 0 n ≡ some_of t 0 (n * r)
unfolding some_of
some_rows t r zero = ap (some_of t 0) (sym (zero-mul r))
some_rows t r (suc n) =
    let z : 0 + n ≡ n = omega arith in
    let e : n * r + r ≡ suc n * r = omega (arith, suc-mul n r) in
    ap₂ (λ (k : ℕ) (b : Bool). cond (some_of t (k * r) r) true b) z (some_rows t r n) ∙ sym (some_behind t (n * r) r) ∙ ap (some_of t 0) e

module _ (s : Selection) where
  abbrev rank : ℕ
  rank = length s.layout.extents.now

  -- as many as the layout has, and so many as the array has
  pub strides_length : length (new_strides s) ≡ length s.layout.strides.now
  strides_length = window_length s.picks.counts.now s.picks.steps.now s.layout.strides.now rank s.layout.operands s.counted s.layout.fits.strides_all

  pub strides_few : length s.layout.strides.now ≤ 512
  strides_few = few_places s.layout.strides.now rank s.layout.operands s.layout.fits

  -- all operands' rows are all places
  pub places_all : s.layout.operands * rank ≡ length (new_strides s)
  places_all = mul_comm s.layout.operands rank ∙ sym s.layout.fits.strides_all ∙ sym strides_length

  -- ts is operand k's row
  module _ (k : ℕ) (h : k < s.layout.operands) {ts : List ℤ} (r : ts ≡ stride_row s.layout.strides.now rank k) where
    pub row_long : length ts ≡ rank
    row_long = ap length r ∙ length_strides s.layout.strides.now rank s.layout.operands k s.layout.fits.strides_all h

    -- behind its places is the next operand's row
    pub row_behind : (k + 1) * rank ≡ k * rank + length ts
    row_behind = omega (arith, row_long)

    module _ (i : ℕ) (l : i < length ts) where
      below : i < rank
      below = omega (arith, l, row_long)

      there : k * rank + i < length s.layout.strides.now
      there = let m = mul-add-lt k rank i s.layout.operands h below in omega (arith, m, s.layout.fits.strides_all)

      pub place_there : k * rank + i < length (new_strides s)
      place_there = omega (arith, there, strides_length)

      pub stride_made : get_or (new_strides s) (k * rank + i) (pos 0) ≡ stepped_stride (get_or s.picks.counts.now i 0) (get_or s.picks.steps.now i (pos 0)) (get_or ts i (pos 0))
      stride_made =
          window_at_lem s.picks.counts.now s.picks.steps.now s.layout.strides.now rank s.layout.operands s.counted s.layout.fits.strides_all (k * rank + i) there i (sym (mod-mul-add k rank i below))
          ∙ ap (stepped_stride (get_or s.picks.counts.now i 0) (get_or s.picks.steps.now i (pos 0))) (sym (ap (λ (u : List ℤ). get_or u i (pos 0)) r ∙ stride_at s.layout.strides.now rank k i below))

      -- the test of that stride, as the code makes it
      pub over_made : {b : Bool} → b ≡ not (in_i64 (stepped_stride (get_or s.picks.counts.now i 0) (get_or s.picks.steps.now i (pos 0)) (get_or ts i (pos 0))))
          → b ≡ stride_over (new_strides s) (k * rank + i)
      over_made e = e ∙ sym (ap (λ (z : ℤ). not (in_i64 z)) stride_made)

      -- where no stride leaves, that one fits
      pub held_made : some_of (stride_over (new_strides s)) 0 (length (new_strides s)) ≡ false
          → in_i64 (stepped_stride (get_or s.picks.counts.now i 0) (get_or s.picks.steps.now i (pos 0)) (get_or ts i (pos 0))) ≡ true
      held_made none =
          sym (ap in_i64 stride_made)
          ∙ not-false (in_i64 (get_or (new_strides s) (k * rank + i) (pos 0))) (some_of_at (stride_over (new_strides s)) (length (new_strides s)) none (k * rank + i) place_there)
