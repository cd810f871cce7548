-- Which case of `cutting` and of `fit_from` holds, by the tests of the code. A tail is given by its first axis o and the rank r.
-- Assumes nothing.
use Rattle.std.specs.Prelude.{◌≡◌, List, Bool, true, false, not, ◌&&◌, ltb, leb, eqb, get_or, set}
use Rattle.std.proofs.Math.Path.{refl, subst, ap}
use Rattle.std.proofs.Common.{◌∙◌}
use Rattle.std.proofs.Math.Bool.{cond}
use Prim.Native.Nat.{ℕ, zero, suc, ◌+◌, ◌-◌, ◌<◌, ◌≤◌}
use native.Mathlib.Omega.{arith}
use borrow.Author.Tests.{lt-ltb, le-ltb, le-leb, lt-leb, ltb-true}
use Rattle.strided.specs.Region.{region}
use Rattle.strided.specs.Cut.{shrunk, keeps_first, least_byte, ones, cutting}
use Rattle.strided.specs.Fit.{load, enters, shortens, most_of, fit_from, fitted}
use Rattle.strided.specs.declared.Machine.{Machine}
use Rattle.laws.specs.Cut.Ranges.{none_yet, one_more_lem, at_end}

-- ---- the tail's blocks become 1

pub ones_start : (o : ℕ) (b : List ℕ) → ones o (o - o) b ≡ b
unfolding ones
ones_start o b = none_yet (λ k. ones o k b) o

pub ones_step : (o i : ℕ) (b : List ℕ) → o ≤ i → ones o (i + 1 - o) b ≡ set (ones o (i - o) b) i 1
unfolding ones
ones_step o i b h = one_more_lem (λ k. ones o k b) o i h ∙ ap (λ (x : ℕ). set (ones o (i - o) b) x 1) (at_end o i h)

-- ---- cutting

module _ (mc : Machine) (bytes : List ℕ) (operands : ℕ) (costs : List ℕ) (ranks : List (List ℕ)) (o r : ℕ) (b : List ℕ) where
  cut : ℕ → ℕ → List ℕ
  cut o n = cutting mc bytes operands costs ranks o n b

  -- one axis taken off the count
  whole : o < r
      → cut o (r - o)
      ≡ cond (leb (region mc bytes operands b o (r - o)) mc.cache) b
      (cond (keeps_first ranks operands o (r - o)) (cut (o + 1) (r - (o + 1)))
      (cond (ltb mc.cache (least_byte bytes operands o (r - o))) (ones o (r - o) b)
      (shrunk mc bytes operands costs o (r - o) b)))
  unfolding cutting cut
  whole h =
      let e : suc (r - (o + 1)) ≡ r - o = omega arith in
      subst (λ (n : ℕ). cut o n
      ≡ cond (leb (region mc bytes operands b o n) mc.cache) b
      (cond (keeps_first ranks operands o n) (cut (o + 1) (r - (o + 1)))
      (cond (ltb mc.cache (least_byte bytes operands o n)) (ones o n b)
      (shrunk mc bytes operands costs o n b)))) e refl

  pub cut_empty : o ≡ r → cutting mc bytes operands costs ranks o (r - o) b ≡ b
  unfolding cutting
  cut_empty h = let e : r - o ≡ 0 = omega arith in ap (λ (n : ℕ). cutting mc bytes operands costs ranks o n b) e

  pub cut_fits : o < r → region mc bytes operands b o (r - o) ≤ mc.cache → cutting mc bytes operands costs ranks o (r - o) b ≡ b
  unfolding cut
  cut_fits h f = whole h ∙ rw (le-leb (region mc bytes operands b o (r - o)) mc.cache f)

  pub cut_keeps : o < r → mc.cache < region mc bytes operands b o (r - o) → keeps_first ranks operands o (r - o) ≡ true
      → cutting mc bytes operands costs ranks o (r - o) b ≡ cutting mc bytes operands costs ranks (o + 1) (r - (o + 1)) b
  unfolding cut
  cut_keeps h f k = whole h ∙ rw (lt-leb (region mc bytes operands b o (r - o)) mc.cache f, k)

  pub cut_flat : o < r → mc.cache < region mc bytes operands b o (r - o) → keeps_first ranks operands o (r - o) ≡ false
      → mc.cache < least_byte bytes operands o (r - o) → cutting mc bytes operands costs ranks o (r - o) b ≡ ones o (r - o) b
  unfolding cut
  cut_flat h f k l = whole h ∙ rw (lt-leb (region mc bytes operands b o (r - o)) mc.cache f, k, lt-ltb mc.cache (least_byte bytes operands o (r - o)) l)

  pub cut_less : o < r → mc.cache < region mc bytes operands b o (r - o) → keeps_first ranks operands o (r - o) ≡ false
      → least_byte bytes operands o (r - o) ≤ mc.cache → cutting mc bytes operands costs ranks o (r - o) b ≡ shrunk mc bytes operands costs o (r - o) b
  unfolding cut
  cut_less h f k l = whole h ∙ rw (lt-leb (region mc bytes operands b o (r - o)) mc.cache f, k, le-ltb mc.cache (least_byte bytes operands o (r - o)) l)

-- ---- the fit

-- an axis that is shortened has a block above 1
and_true : (s t u : Bool) → s && (t && u) ≡ true → u ≡ true
and_true true true u e = e
and_true true false u e = absurd (let z : ◌≡◌ {A = ℕ} 0 1 = cc in omega arith)
and_true false t u e = absurd (let z : ◌≡◌ {A = ℕ} 0 1 = cc in omega arith)

pub shortens_above : (mc : Machine) (bytes sizes : List ℕ) (rank : ℕ) (chosen_size : ℕ → ℕ) (b : List ℕ) (i : ℕ)
    → shortens mc bytes sizes rank chosen_size b i ≡ true → 1 < get_or b i 0
unfolding shortens
shortens_above mc bytes sizes rank chosen_size b i e =
    ltb-true 1 (get_or b i 0) (and_true (not (eqb (chosen_size i) 0)) (enters mc bytes sizes rank i) (ltb 1 (get_or b i 0)) e)

module _ (mc : Machine) (bytes sizes : List ℕ) (rank : ℕ) (chosen_size : ℕ → ℕ) (b : List ℕ) where
  pub fit_none : fit_from mc bytes sizes rank chosen_size 0 b ≡ b
  unfolding fit_from
  fit_none = refl

  -- one axis taken off the count
  one-off : (n : ℕ) → 0 < n
      → fit_from mc bytes sizes rank chosen_size n b
      ≡ cond (shortens mc bytes sizes rank chosen_size b (n - 1))
      (cond (ltb mc.live (load mc bytes sizes rank (set b (n - 1) 1))) (fit_from mc bytes sizes rank chosen_size (n - 1) (set b (n - 1) 1)) (set b (n - 1) (most_of mc bytes sizes rank b (n - 1))))
      (fit_from mc bytes sizes rank chosen_size (n - 1) b)
  unfolding fit_from
  one-off zero h = absurd (omega arith)
  one-off (suc n) h =
      let e : n ≡ suc n - 1 = omega arith in
      subst (λ (k : ℕ). fit_from mc bytes sizes rank chosen_size (suc n) b
      ≡ cond (shortens mc bytes sizes rank chosen_size b k)
      (cond (ltb mc.live (load mc bytes sizes rank (set b k 1))) (fit_from mc bytes sizes rank chosen_size k (set b k 1)) (set b k (most_of mc bytes sizes rank b k)))
      (fit_from mc bytes sizes rank chosen_size k b)) e refl

  pub fit_skip : (n : ℕ) → 0 < n → shortens mc bytes sizes rank chosen_size b (n - 1) ≡ false
      → fit_from mc bytes sizes rank chosen_size n b ≡ fit_from mc bytes sizes rank chosen_size (n - 1) b
  fit_skip n h e = one-off n h ∙ rw e

  pub fit_on : (n : ℕ) → 0 < n → shortens mc bytes sizes rank chosen_size b (n - 1) ≡ true → mc.live < load mc bytes sizes rank (set b (n - 1) 1)
      → fit_from mc bytes sizes rank chosen_size n b ≡ fit_from mc bytes sizes rank chosen_size (n - 1) (set b (n - 1) 1)
  fit_on n h e l = one-off n h ∙ rw (e, lt-ltb mc.live (load mc bytes sizes rank (set b (n - 1) 1)) l)

  pub fit_last : (n : ℕ) → 0 < n → shortens mc bytes sizes rank chosen_size b (n - 1) ≡ true → load mc bytes sizes rank (set b (n - 1) 1) ≤ mc.live
      → fit_from mc bytes sizes rank chosen_size n b ≡ set b (n - 1) (most_of mc bytes sizes rank b (n - 1))
  fit_last n h e l = one-off n h ∙ rw (e, le-ltb mc.live (load mc bytes sizes rank (set b (n - 1) 1)) l)

  pub fitted_small : load mc bytes sizes rank b ≤ mc.live → fitted mc bytes sizes rank chosen_size b ≡ b
  unfolding fitted
  fitted_small l = rw (le-ltb mc.live (load mc bytes sizes rank b) l)

  pub fitted_big : mc.live < load mc bytes sizes rank b → fitted mc bytes sizes rank chosen_size b ≡ fit_from mc bytes sizes rank chosen_size rank b
  unfolding fitted
  fitted_big l = rw (lt-ltb mc.live (load mc bytes sizes rank b) l)
