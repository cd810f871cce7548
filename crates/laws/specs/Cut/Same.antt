-- Cutting and the fit look at byte strides, costs and ranks of the plan's axes only, and of a byte stride they look at its side of the line and
-- of the cache, at its remainder by the way, and at itself where it is below the line. Tables that agree in this give the same.
-- Assumes nothing.
use Rattle.std.specs.Prelude.{◌≡◌, Bool, ◌&&◌, ◌||◌, get_or, set, Option, None, Some}
use Rattle.std.proofs.Math.Path.{refl, ap, ap₂}
use Rattle.std.proofs.Common.{◌∙◌, arith}
use Rattle.std.proofs.Math.Bool.{cond, not}
use mathlib.Core.List.{List}
use Prim.Native.Nat.{ℕ, zero, suc, ◌+◌, ◌-◌, ◌*◌, ◌/◌, ◌≤◌, ◌<◌}
use Rattle.std.proofs.Math.Dec.{ltb, leb, eqb}
use Rattle.strided.specs.Base.{product, least, greatest, until}
use Rattle.strided.specs.Region.{byte_at, near, far, region_of, region}
use Rattle.strided.specs.Cut.{score, weighed, later, greatest_score, shorten, halving, lessening, cells, halved, lessened, shrunk, rank_at, least_rank, least_byte, keeps_first, ones, cutting}
use Rattle.strided.specs.Fit.{reuse, counts, aliases, factor, load_of, load, enters_of, enters, shortens, most_of, fit_from, fitted}
use Rattle.strided.specs.declared.Machine.{Machine}
use Rattle.laws.specs.Cut.Ranges.{sum_cong, product_cong, least_cong, least_above, every_cong, seek_cong, seek_le}
use Rattle.laws.specs.Cut.Picks.{pick_is}

-- two byte strides that no rule tells apart
pub record Alike (mc : Machine) (x y : ℕ) : Type 0 where
  pub line : ltb x mc.line ≡ ltb y mc.line
  pub near : (n : ℕ) → cond (ltb x mc.line) (x * n) 0 ≡ cond (ltb y mc.line) (y * n) 0
  pub cache : ltb mc.cache x ≡ ltb mc.cache y
  pub way : aliases mc x ≡ aliases mc y

-- two tables of byte strides, two of ranks, and two lists of costs that agree on the plan's axes
abbrev pub AlikeBytes : Machine → ℕ → ℕ → List ℕ → List ℕ → Type 0
AlikeBytes mc operands rank bytes bytes' = (k i : ℕ) → k < operands → i < rank → Alike mc (byte_at bytes k i) (byte_at bytes' k i)

abbrev pub SameRanks : ℕ → ℕ → List (List ℕ) → List (List ℕ) → Type 0
SameRanks operands rank table table' = (k i : ℕ) → k < operands → i < rank → rank_at table k i ≡ rank_at table' k i

abbrev pub SameCosts : ℕ → List ℕ → List ℕ → Type 0
SameCosts rank costs costs' = (i : ℕ) → i < rank → get_or costs i 0 ≡ get_or costs' i 0

module _ (mc : Machine) (operands rank : ℕ) (bytes bytes' : List ℕ) (same : AlikeBytes mc operands rank bytes bytes') where
  pub region-same : (b : List ℕ) (o n : ℕ) → o + n ≤ rank → region mc bytes operands b o n ≡ region mc bytes' operands b o n
  unfolding region region_of
  region-same b o n h = sum_cong (region_of mc bytes b o n) (region_of mc bytes' b o n) 0 operands
      (λ k p q. ap₂ (λ (x y : ℕ). mc.line * (x / mc.line + 1) * y)
      (sum_cong (near mc bytes b k) (near mc bytes' b k) o n
      (λ i u v. (same k i (omega arith) (omega arith)).near (get_or b i 0 - 1)))
      (product_cong (far mc bytes b k) (far mc bytes' b k) o n
      (λ i u v. ap (λ (t : Bool). cond t 1 (get_or b i 0)) (same k i (omega arith) (omega arith)).line)))

  least_byte_same : (o n : ℕ) → o + n ≤ rank → ltb mc.cache (least_byte bytes operands o n) ≡ ltb mc.cache (least_byte bytes' operands o n)
  unfolding least_byte
  least_byte_same o n h = least_above mc.cache (λ k. least (byte_at bytes k) o n) (λ k. least (byte_at bytes' k) o n) 0 operands
      (λ k p q. least_above mc.cache (byte_at bytes k) (byte_at bytes' k) o n (λ i u v. (same k i (omega arith) (omega arith)).cache))

  module _ (costs costs' : List ℕ) (even : SameCosts rank costs costs') where
    score-same : (b : List ℕ) (i : ℕ) → i < rank → score b costs i ≡ score b costs' i
    score-same b i h = ap (λ (c : ℕ). (get_or b i 0 - 1) * c) (even i h)

    later_same : (s s' : ℕ → ℕ) (i : ℕ) (p : Option ℕ) → s i ≡ s' i → ((j : ℕ) → p ≡ Some j → s j ≡ s' j) → later s i p ≡ later s' i p
    later_same s s' i None e f = refl
    later_same s s' i (Some j) e f = ap₂ (λ (x y : ℕ). cond (ltb x y) (Some j) (Some i)) e (f j refl)

    pick_same : (b : List ℕ) (o n : ℕ) → o + n ≤ rank → greatest_score b costs o n ≡ greatest_score b costs' o n
    unfolding greatest_score
    pick_same b o zero h = refl
    pick_same b o (suc n) h =
        let old : Option ℕ = greatest_score b costs o n in
        let i : ℕ = o + n in
        ap (λ (p : Option ℕ). cond (weighed b costs i) p old)
        (later_same (score b costs) (score b costs') i old (score-same b i (omega arith))
        (λ j e. let r = pick_is b costs o n j e in score-same b j (omega (arith, r.below))))
        ∙ ap₂ (λ (c : ℕ) (p : Option ℕ). cond (ltb 1 (get_or b i 0) && ltb 0 c) (later (score b costs') i p) p) (even i (omega arith)) (pick_same b o n (omega arith))

    halving-same : (o n : ℕ) → o + n ≤ rank → (b : List ℕ) → halving mc bytes operands costs o n b ≡ halving mc bytes' operands costs' o n b
    unfolding halving
    halving-same o n h b =
        ap₂ (λ (r : ℕ) (p : Option ℕ). cond (leb (2 * mc.cache) r) (shorten (λ x. (x + 1) / 2) b p) None) (region-same b o n h) (pick_same b o n h)

    lessening-same : (o n : ℕ) → o + n ≤ rank → (b : List ℕ) → lessening mc bytes operands costs o n b ≡ lessening mc bytes' operands costs' o n b
    unfolding lessening
    lessening-same o n h b =
        ap₂ (λ (r : ℕ) (p : Option ℕ). cond (ltb mc.cache r) (shorten (λ x. x - 1) b p) None) (region-same b o n h) (pick_same b o n h)

    shrunk-same : (o n : ℕ) → o + n ≤ rank → (b : List ℕ) → shrunk mc bytes operands costs o n b ≡ shrunk mc bytes' operands costs' o n b
    unfolding shrunk halved lessened
    shrunk-same o n h b =
        let half : List ℕ → List ℕ = λ b. until (halving mc bytes operands costs o n) (cells o n b) b in
        (λ t. until (λ x. lessening-same o n h x t) (cells o n (half b)) (half b))
        ∙ (λ t. lessened mc bytes' operands costs' o n (until (λ x. halving-same o n h x t) (cells o n b) b))

    module _ (table table' : List (List ℕ)) (ranked : SameRanks operands rank table table') where
      least-rank-same : (o n : ℕ) → o + n ≤ rank → least_rank table operands o n ≡ least_rank table' operands o n
      unfolding least_rank
      least-rank-same o n h = least_cong (λ k. least (rank_at table k) o n) (λ k. least (rank_at table' k) o n) 0 operands
          (λ k p q. least_cong (rank_at table k) (rank_at table' k) o n (λ i u v. ranked k i (omega arith) (omega arith)))

      keeps_same : (o n : ℕ) → o < rank → o + n ≤ rank → keeps_first table operands o n ≡ keeps_first table' operands o n
      unfolding keeps_first
      keeps_same o n l h =
          every_cong (λ k. eqb (rank_at table k o) (least_rank table operands o n)) (λ k. eqb (rank_at table' k o) (least_rank table' operands o n)) 0 operands
          (λ k p q. ap₂ eqb (ranked k o (omega arith) l) (least-rank-same o n h))

      pub cutting-same : (n o : ℕ) → o + n ≤ rank → (b : List ℕ) → cutting mc bytes operands costs table o n b ≡ cutting mc bytes' operands costs' table' o n b
      unfolding cutting
      cutting-same zero o h b = refl
      cutting-same (suc n) o h b =
          let rest = cutting-same n (o + 1) (omega arith) b in
          let r = region-same b o (suc n) h in
          let k = keeps_same o (suc n) (omega arith) h in
          let l = least_byte_same o (suc n) h in
          let s = shrunk-same o (suc n) h b in
          λ t. cond (leb (r t) mc.cache) b (cond (k t) (rest t) (cond (l t) (ones o (suc n) b) (s t)))

  -- ---- the fit

  module _ (two : 2 ≤ operands) (sizes : List ℕ) where
    reuse-same : (k : ℕ) → k < 2 → reuse mc bytes rank k ≡ reuse mc bytes' rank k
    unfolding reuse
    reuse-same k h = seek_cong (λ i. ltb (byte_at bytes k i) mc.line) (λ i. ltb (byte_at bytes' k i) mc.line) 0 rank
        (λ i p q. (same k i (omega arith) (omega arith)).line)

    reuse_le : (k : ℕ) → reuse mc bytes rank k ≤ rank
    unfolding reuse
    reuse_le k = omega (arith, seek_le (λ i. ltb (byte_at bytes k i) mc.line) 0 rank)

    counts_same : (k : ℕ) → k < 2 → counts mc bytes sizes rank k ≡ counts mc bytes' sizes rank k
    unfolding counts
    counts_same k h = ap (λ (r : ℕ). not (eqb (get_or sizes k 0) 0) && (ltb 0 r && ltb r rank)) (reuse-same k h)

    load_same : (b : List ℕ) → load mc bytes sizes rank b ≡ load mc bytes' sizes rank b
    unfolding load load_of
    load_same b = sum_cong (load_of mc bytes sizes rank b) (load_of mc bytes' sizes rank b) 0 2
        (λ k p q. ap₂ (λ (t : Bool) (x : ℕ). cond t x 0) (counts_same k (omega arith))
        (product_cong (factor mc bytes b k) (factor mc bytes' b k) 0 (reuse mc bytes rank k)
        (λ i u v. ap (λ (t : Bool). cond t (get_or b i 0) 1) (same k i (omega arith) (omega (arith, reuse_le k))).way)
        ∙ ap (product (factor mc bytes' b k) 0) (reuse-same k (omega arith))))

    enters_of_same : (i k : ℕ) → i < rank → k < 2 → enters_of mc bytes sizes rank i k ≡ enters_of mc bytes' sizes rank i k
    unfolding enters_of
    enters_of_same i k l h =
        let c = counts_same k h in
        let r = reuse-same k h in
        let s = (same k i (omega arith) l).way in
        λ t. c t && (ltb i (r t) && s t)

    shortens-same : (chosen : ℕ → ℕ) (b : List ℕ) (i : ℕ) → i < rank → shortens mc bytes sizes rank chosen b i ≡ shortens mc bytes' sizes rank chosen b i
    unfolding shortens enters
    shortens-same chosen b i l =
        ap₂ (λ (x y : Bool). not (eqb (chosen i) 0) && ((x || y) && ltb 1 (get_or b i 0)))
        (enters_of_same i 0 l (omega arith)) (enters_of_same i 1 l (omega arith))

    most-same : (b : List ℕ) (i : ℕ) → most_of mc bytes sizes rank b i ≡ most_of mc bytes' sizes rank b i
    unfolding most_of
    most-same b i = λ t. greatest (λ x. leb (load_same (set b i x) t) mc.live) (get_or b i 0)

    fit_same : (chosen : ℕ → ℕ) (n : ℕ) → n ≤ rank → (b : List ℕ) → fit_from mc bytes sizes rank chosen n b ≡ fit_from mc bytes' sizes rank chosen n b
    unfolding fit_from
    fit_same chosen zero h b = refl
    fit_same chosen (suc n) h b =
        let s = shortens-same chosen b n (omega arith) in
        let l = load_same (set b n 1) in
        let on = fit_same chosen n (omega arith) (set b n 1) in
        let m = most-same b n in
        let skip = fit_same chosen n (omega arith) b in
        λ t. cond (s t) (cond (ltb mc.live (l t)) (on t) (set b n (m t))) (skip t)

    pub fitted-same : (chosen : ℕ → ℕ) (b : List ℕ) → fitted mc bytes sizes rank chosen b ≡ fitted mc bytes' sizes rank chosen b
    unfolding fitted
    fitted-same chosen b =
        let l = load_same b in
        let f = fit_same chosen rank (omega arith) b in
        λ t. cond (ltb mc.live (l t)) (f t) b
