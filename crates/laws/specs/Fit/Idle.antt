-- Where the load is at most the live lines the fit changes nothing. So its first test only saves work, going on after the greatest block has
-- been set would change nothing, and fitting twice is fitting once. Assumes nothing.
use Rattle.std.specs.Prelude.{◌≡◌, get_or, set}
use Rattle.std.proofs.Math.Path.{refl, ap, subst⁻¹}
use Rattle.std.proofs.Common.{sym, ◌∙◌, ⊎_elim, le_refl, le_trans, arith, ltb-false, le-ltb, le-leb, leb-true}
use Rattle.std.proofs.Math.Bool.{Bool, true, false, cond}
use Rattle.std.proofs.lemmas.Bool.{false≢true}
use mathlib.Core.List.{List}
use Prim.Native.Nat.{ℕ, zero, suc, ◌≤◌, ◌<◌}
use Rattle.std.proofs.Math.Dec.{ltb, leb}
use Rattle.std.proofs.Math.Seq.{set-get_or}
use Rattle.strided.specs.Fit.{load, shortens, most_of, fit_from, fitted}
use Rattle.strided.specs.GoodFit.{Free}
use Rattle.strided.specs.declared.Machine.{Machine}
use Rattle.laws.specs.Cut.Ranges.{true_or_false, cond_false, greatest_le, greatest-holds}
use Rattle.laws.specs.Cut.Grow.{load_mono, set_mono}
use Rattle.laws.specs.Cut.Cases.{shortens_above}
use Rattle.laws.specs.Fit.Good.{may_free, fit_good}

module _ (mc : Machine) (bytes sizes : List ℕ) (rank : ℕ) (chosen_size : ℕ → ℕ) where
  abbrev L : List ℕ → ℕ
  L b = load mc bytes sizes rank b

  abbrev may : List ℕ → ℕ → Bool
  may b i = shortens mc bytes sizes rank chosen_size b i

  abbrev most : List ℕ → ℕ → ℕ
  most b i = most_of mc bytes sizes rank b i

  abbrev fit : ℕ → List ℕ → List ℕ
  fit n b = fit_from mc bytes sizes rank chosen_size n b

  -- the greatest block that fits is the block itself
  most-whole : (b : List ℕ) (n : ℕ) → 1 ≤ get_or b n 0 → L b ≤ mc.live → most b n ≡ get_or b n 0
  unfolding most_of
  most-whole b n h few =
      let t : ℕ → Bool = λ x. leb (L (set b n x)) mc.live in
      let fits : L (set b n (get_or b n 0)) ≤ mc.live = subst⁻¹ (λ (x : List ℕ). L x ≤ mc.live) (set-get_or b n 0) few in
      let g = greatest-holds t (get_or b n 0) (get_or b n 0) h (le_refl (get_or b n 0)) (le-leb (L (set b n (get_or b n 0))) mc.live fits) in
      omega (arith, g.1, greatest_le t (get_or b n 0))

  -- block 1 loads no more
  one_fits : (b : List ℕ) (n : ℕ) → 1 ≤ get_or b n 0 → L b ≤ mc.live → L (set b n 1) ≤ mc.live
  one_fits b n h few =
      le_trans (load_mono mc bytes sizes rank (set b n 1) (set b n (get_or b n 0)) (set_mono b n 1 (get_or b n 0) h))
      (subst⁻¹ (λ (x : List ℕ). L x ≤ mc.live) (set-get_or b n 0) few)

  pub idle : (n : ℕ) (b : List ℕ) → load mc bytes sizes rank b ≤ mc.live → fit_from mc bytes sizes rank chosen_size n b ≡ b
  unfolding fit_from
  idle zero b few = refl
  idle (suc n) b few = go (may b n) (ltb mc.live (L (set b n 1))) refl refl (idle n b few)
    where
      go : (s l : Bool) → may b n ≡ s → ltb mc.live (L (set b n 1)) ≡ l → fit n b ≡ b
          → cond s (cond l (fit n (set b n 1)) (set b n (most b n))) (fit n b) ≡ b
      go true true e q f =
          let h = shortens_above mc bytes sizes rank chosen_size b n e in
          absurd (false≢true (sym (le-ltb mc.live (L (set b n 1)) (one_fits b n (omega arith) few)) ∙ q))
      go true false e q f =
          let h = shortens_above mc bytes sizes rank chosen_size b n e in
          ap (set b n) (most-whole b n (omega arith) few) ∙ set-get_or b n 0
      go false l e q f = f

  -- going on after the greatest block has been set
  pub last_idle : (n k : ℕ) (b : List ℕ) → shortens mc bytes sizes rank chosen_size b n ≡ true → load mc bytes sizes rank (set b n 1) ≤ mc.live
      → fit_from mc bytes sizes rank chosen_size k (set b n (most_of mc bytes sizes rank b n)) ≡ set b n (most_of mc bytes sizes rank b n)
  unfolding most_of
  last_idle n k b e few =
      let t : ℕ → Bool = λ x. leb (L (set b n x)) mc.live in
      let h = shortens_above mc bytes sizes rank chosen_size b n e in
      let g = greatest-holds t (get_or b n 0) 1 (le_refl 1) (omega arith) (le-leb (L (set b n 1)) mc.live few) in
      idle k (set b n (most b n)) (leb-true (L (set b n (most b n))) mc.live g.0)

  -- without the first test
  pub untested : (b : List ℕ) → fit_from mc bytes sizes rank chosen_size rank b ≡ fitted mc bytes sizes rank chosen_size b
  unfolding fitted
  untested b = go (ltb mc.live (L b)) refl
    where
      go : (l : Bool) → ltb mc.live (L b) ≡ l → fit rank b ≡ cond l (fit rank b) b
      go true q = refl
      go false q = idle rank b (ltb-false mc.live (L b) q)

  -- where no axis may be shortened
  still : (n : ℕ) (b : List ℕ) → ((i : ℕ) → may b i ≡ false) → fit n b ≡ b
  unfolding fit_from
  still zero b h = refl
  still (suc n) b h = cond_false (may b n) _ (fit n b) (h n) ∙ still n b h

  -- fitting again
  pub again : (b : List ℕ) → ((i : ℕ) → i < rank → 1 ≤ get_or b i 0)
      → fitted mc bytes sizes rank chosen_size (fitted mc bytes sizes rank chosen_size b) ≡ fitted mc bytes sizes rank chosen_size b
  again b above =
      let r : List ℕ = fitted mc bytes sizes rank chosen_size b in
      sym (untested r) ∙ ⊎_elim
      (λ (few : L r ≤ mc.live). idle rank r few)
      (λ (one : (i : ℕ) → Free mc bytes sizes rank chosen_size i → get_or r i 0 ≡ 1).
      still rank r (λ i. ⊎_elim
      (λ e. absurd (omega (arith, one i (may_free mc bytes sizes rank chosen_size r i e), shortens_above mc bytes sizes rank chosen_size r i e)))
      (λ e. e)
      (true_or_false (may r i))))
      (fit_good mc bytes sizes rank chosen_size b above).achieved
