-- A step of `halving` or `lessening`: which block it shortens, that the tail has fewer cells after it, that no block falls below 1, that
-- scores still fit 64 bits, and that the counts of `halved` and `lessened` never run out. Assumes nothing.
use Rattle.std.specs.Prelude.{◌≡◌, refl, List, ◌⊎◌, Bool, true, false, ℕ, zero, suc, ◌+◌, ◌-◌, ◌*◌, ◌/◌, ◌<◌, ◌≤◌, ◌^◌, ltb, leb, get_or, set, length, Option, None, Some}
use Rattle.std.proofs.Common.{sym, subst, ap₂, ◌∙◌, ⊎_elim, inl, inr, mul-le-mul_right, le_of_eq, le_refl, le_trans, lt_of_le_of_lt, eq-or-lt_of_le, length-set, get_or-set_same, get_or-set_other, le-leb, lt-ltb, le-ltb}
use Rattle.std.proofs.Math.Path.{subst⁻¹, ap}
use Rattle.std.proofs.Math.Bool.{cond}
use native.Mathlib.Omega.{arith}
use Rattle.std.proofs.Math.Decide.{ℕ_discrete}
use Rattle.std.proofs.Math.Seq.{set_out}
use Rattle.std.proofs.lemmas.Bool.{lt-leb}
use Rattle.strided.specs.Base.{sum}
use Rattle.strided.specs.Region.{region}
use Rattle.strided.specs.Cut.{score, greatest_score, shorten, halving, lessening, cells, halved, lessened, shrunk}
use Rattle.strided.specs.declared.Machine.{Machine}
use Rattle.laws.specs.Cut.Ranges.{le_or_lt, cond_true, cond_false, cond_same}
use Rattle.laws.specs.Cut.Until.{none_or_some, until_stop, until-step, until_keeps, until_ends}
use Rattle.laws.specs.Cut.Picks.{Pickable, pick_is, above_there}

-- every score of the first n axes fits 64 bits: row 6 of the refusal table sees to it (Tables, scores_fit)
abbrev pub ScoresFit : ℕ → List ℕ → List ℕ → Type 0
ScoresFit n costs b = (i : ℕ) → i < n → score b costs i < 2 ^ 64

-- ---- one block made smaller

-- a sum up to i does not see a store at i
sum-set-before : (b : List ℕ) (i v o n : ℕ) → o + n ≤ i → sum (λ k. get_or (set b i v) k 0) o n ≡ sum (λ k. get_or b k 0) o n
unfolding sum
sum-set-before b i v o zero h = refl
sum-set-before b i v o (suc n) h =
    ap₂ ◌+◌ (sum-set-before b i v o n (omega arith)) (get_or-set_other b i (o + n) v 0 (omega arith))

-- a smaller block makes the tail smaller
cells-set : (b : List ℕ) (i v o n : ℕ) → o ≤ i → i < o + n → i < length b → v < get_or b i 0
    → cells o n (set b i v) < cells o n b
unfolding sum
cells-set b i v o zero ho hn hl hv = absurd (omega arith)
cells-set b i v o (suc n) ho hn hl hv = ⊎_elim
    (λ (h : i ≡ o + n).
    let e1 = sum-set-before b i v o n (omega arith) in
    let e2 : get_or (set b i v) (o + n) 0 ≡ v = ap (λ (k : ℕ). get_or (set b i v) k 0) (sym h) ∙ get_or-set_same b i v 0 hl in
    let e3 : get_or b (o + n) 0 ≡ get_or b i 0 = ap (λ (k : ℕ). get_or b k 0) (sym h) in
    omega arith)
    (λ (h : i < o + n).
    let e1 = cells-set b i v o n ho h hl hv in
    let e2 = get_or-set_other b i (o + n) v 0 (omega arith) in
    omega arith)
    (eq-or-lt_of_le {n = i} {m = o + n} (omega arith))

-- it makes no block greater
pub set_le : (b : List ℕ) (i v j : ℕ) → i < length b → v ≤ get_or b i 0 → get_or (set b i v) j 0 ≤ get_or b j 0
set_le b i v j hl hv = elim (ℕ_discrete j i) [
  | yes e ↦ subst⁻¹ (λ (k : ℕ). get_or (set b i v) k 0 ≤ get_or b k 0) e (subst⁻¹ (λ (x : ℕ). x ≤ get_or b i 0) (get_or-set_same b i v 0 hl) hv)
  | no e ↦ le_of_eq (get_or-set_other b i j v 0 e)
]

-- a block of 1 or more leaves every other such block so
pub set_above : (b : List ℕ) (i v j : ℕ) → 1 ≤ v → 1 ≤ get_or b j 0 → 1 ≤ get_or (set b i v) j 0
set_above b i v j h l = elim (ℕ_discrete j i) [
  | yes e ↦ subst⁻¹ (λ (k : ℕ). 1 ≤ get_or (set b i v) k 0) e (⊎_elim
      (λ (o : length b ≤ i). subst⁻¹ (λ (c : List ℕ). 1 ≤ get_or c i 0) (set_out b i v o) (subst (λ (k : ℕ). 1 ≤ get_or b k 0) e l))
      (λ (o : i < length b). omega (arith, get_or-set_same b i v 0 o))
      (le_or_lt (length b) i))
  | no e ↦ omega (arith, get_or-set_other b i j v 0 e)
]

-- smaller blocks, smaller scores
pub scores_le : (n : ℕ) (costs b b' : List ℕ) → ((j : ℕ) → get_or b' j 0 ≤ get_or b j 0) → ScoresFit n costs b → ScoresFit n costs b'
scores_le n costs b b' le fit j hj =
    let h = le j in
    lt_of_le_of_lt (mul-le-mul_right (get_or costs j 0) (omega arith)) (fit j hj)

-- ---- a step, whatever it makes of the block

some_inj : (a b : List ℕ) → Some a ≡ Some b → a ≡ b
some_inj a b e = cc

cond_some : (t : Bool) (x : Option (List ℕ)) (b : List ℕ) → cond t x None ≡ Some b → x ≡ Some b
cond_some true x b e = e
cond_some false x b e = absurd (let z : ◌≡◌ {A = ℕ} 0 1 = cc in omega arith)

-- fewer cells, no block greater, none below 1, as many places, and an axis that has no cost as it was
pub record Shorter (costs : List ℕ) (o n : ℕ) (b b' : List ℕ) : Type 0 where
  pub fewer : cells o n b' < cells o n b
  pub less : (j : ℕ) → get_or b' j 0 ≤ get_or b j 0
  pub above : (j : ℕ) → 1 ≤ get_or b j 0 → 1 ≤ get_or b' j 0
  pub long : length b' ≡ length b
  pub still : (j : ℕ) → get_or costs j 0 ≡ 0 → get_or b' j 0 ≡ get_or b j 0

module _ (f : ℕ → ℕ) (less : (x : ℕ) → 1 < x → (f x < x) × (1 ≤ f x)) (costs : List ℕ) (o n : ℕ) (b b' : List ℕ) where
  shorten_shorter : (p : Option ℕ) → ((i : ℕ) → p ≡ Some i → Pickable b costs o n i) → shorten f b p ≡ Some b' → Shorter costs o n b b'
  shorten_shorter None q e = absurd (let z : ◌≡◌ {A = ℕ} 0 1 = cc in omega arith)
  shorten_shorter (Some i) q e =
      let r = q i refl in
      let there = above_there b i r.above in
      let smaller = less (get_or b i 0) r.above in
      subst (λ (l : List ℕ). Shorter costs o n b l) (some_inj (set b i (f (get_or b i 0))) b' e)
      (record {
        fewer = cells-set b i (f (get_or b i 0)) o n r.from r.below there smaller.0;
        less = λ j. set_le b i (f (get_or b i 0)) j there (omega (arith, smaller.0));
        above = λ j. set_above b i (f (get_or b i 0)) j smaller.1;
        long = length-set b i (f (get_or b i 0));
        still = λ j z. get_or-set_other b i j (f (get_or b i 0)) 0 (λ e. absurd (let q : get_or costs j 0 ≡ get_or costs i 0 = ap (λ (k : ℕ). get_or costs k 0) e in omega (arith, r.cost, q, z)));
      })

module _ (mc : Machine) (bytes : List ℕ) (operands : ℕ) (costs : List ℕ) (o n : ℕ) where
  pub halving_shorter : (b b' : List ℕ) → halving mc bytes operands costs o n b ≡ Some b' → Shorter costs o n b b'
  unfolding halving
  halving_shorter b b' e =
      shorten_shorter (λ x. (x + 1) / 2) (λ x h. (omega arith, omega arith)) costs o n b b' (greatest_score b costs o n) (λ i q. pick_is b costs o n i q)
      (cond_some (leb (2 * mc.cache) (region mc bytes operands b o n)) (shorten (λ x. (x + 1) / 2) b (greatest_score b costs o n)) b' e)

  pub lessening_shorter : (b b' : List ℕ) → lessening mc bytes operands costs o n b ≡ Some b' → Shorter costs o n b b'
  unfolding lessening
  lessening_shorter b b' e =
      shorten_shorter (λ x. x - 1) (λ x h. (omega arith, omega arith)) costs o n b b' (greatest_score b costs o n) (λ i q. pick_is b costs o n i q)
      (cond_some (ltb mc.cache (region mc bytes operands b o n)) (shorten (λ x. x - 1) b (greatest_score b costs o n)) b' e)

  pub halving_falls : (b b' : List ℕ) → halving mc bytes operands costs o n b ≡ Some b' → cells o n b' < cells o n b
  halving_falls b b' e = (halving_shorter b b' e).fewer

  pub lessening_falls : (b b' : List ℕ) → lessening mc bytes operands costs o n b ≡ Some b' → cells o n b' < cells o n b
  lessening_falls b b' e = (lessening_shorter b b' e).fewer

-- ---- what a step is, from the region and the pick

module _ (mc : Machine) (bytes : List ℕ) (operands : ℕ) (costs : List ℕ) (o n : ℕ) (b : List ℕ) where
  half : Option ℕ → Option (List ℕ)
  half p = shorten (λ x. (x + 1) / 2) b p

  one-off : Option ℕ → Option (List ℕ)
  one-off p = shorten (λ x. x - 1) b p

  pub halving_small : region mc bytes operands b o n < 2 * mc.cache → halving mc bytes operands costs o n b ≡ None
  unfolding halving half
  halving_small h = cond_false (leb (2 * mc.cache) (region mc bytes operands b o n)) (half (greatest_score b costs o n)) None (lt-leb (2 * mc.cache) (region mc bytes operands b o n) h)

  pub halving_nothing : greatest_score b costs o n ≡ None → halving mc bytes operands costs o n b ≡ None
  unfolding halving half
  halving_nothing e =
      ap (λ (p : Option ℕ). cond (leb (2 * mc.cache) (region mc bytes operands b o n)) (half p) None) e
      ∙ cond_same (leb (2 * mc.cache) (region mc bytes operands b o n)) None

  pub halving-at : (i : ℕ) → 2 * mc.cache ≤ region mc bytes operands b o n → greatest_score b costs o n ≡ Some i
      → halving mc bytes operands costs o n b ≡ Some (set b i ((get_or b i 0 + 1) / 2))
  unfolding halving half
  halving-at i h e =
      cond_true (leb (2 * mc.cache) (region mc bytes operands b o n)) (half (greatest_score b costs o n)) None (le-leb (2 * mc.cache) (region mc bytes operands b o n) h)
      ∙ ap half e

  pub lessening_small : region mc bytes operands b o n ≤ mc.cache → lessening mc bytes operands costs o n b ≡ None
  unfolding lessening one-off
  lessening_small h = cond_false (ltb mc.cache (region mc bytes operands b o n)) (one-off (greatest_score b costs o n)) None (le-ltb mc.cache (region mc bytes operands b o n) h)

  pub lessening_nothing : greatest_score b costs o n ≡ None → lessening mc bytes operands costs o n b ≡ None
  unfolding lessening one-off
  lessening_nothing e =
      ap (λ (p : Option ℕ). cond (ltb mc.cache (region mc bytes operands b o n)) (one-off p) None) e
      ∙ cond_same (ltb mc.cache (region mc bytes operands b o n)) None

  pub lessening-at : (i : ℕ) → mc.cache < region mc bytes operands b o n → greatest_score b costs o n ≡ Some i
      → lessening mc bytes operands costs o n b ≡ Some (set b i (get_or b i 0 - 1))
  unfolding lessening one-off
  lessening-at i h e =
      cond_true (ltb mc.cache (region mc bytes operands b o n)) (one-off (greatest_score b costs o n)) None (lt-ltb mc.cache (region mc bytes operands b o n) h)
      ∙ ap one-off e

-- ---- all the steps

module _ (mc : Machine) (bytes : List ℕ) (operands : ℕ) (costs : List ℕ) (o n : ℕ) (b : List ℕ) where
  -- blocks only shrink, none below 1, there are as many of them, and an axis that has no cost stays as it is
  record Shrunk (r : List ℕ) : Type 0 where
    less : (j : ℕ) → get_or r j 0 ≤ get_or b j 0
    above : (j : ℕ) → 1 ≤ get_or b j 0 → 1 ≤ get_or r j 0
    long : length r ≡ length b
    still : (j : ℕ) → get_or costs j 0 ≡ 0 → get_or r j 0 ≡ get_or b j 0

  start : Shrunk b
  start = record { less = λ j. le_refl (get_or b j 0); above = λ j l. l; long = refl; still = λ j z. refl }

  go_on : (r r' : List ℕ) → Shorter costs o n r r' → Shrunk r → Shrunk r'
  go_on r r' h s =
      record {
        less = λ j. le_trans (h.less j) (s.less j);
        above = λ j l. h.above j (s.above j l);
        long = h.long ∙ s.long;
        still = λ j z. h.still j z ∙ s.still j z;
      }

  halved-shrunk : Shrunk (halved mc bytes operands costs o n b)
  unfolding halved
  halved-shrunk =
      until_keeps (halving mc bytes operands costs o n) Shrunk (λ r r' e. go_on r r' (halving_shorter mc bytes operands costs o n r r' e)) (cells o n b) b start

  pub halved_le : (j : ℕ) → get_or (halved mc bytes operands costs o n b) j 0 ≤ get_or b j 0
  halved_le = halved-shrunk.less

  -- from any blocks that are no greater
  lessened-from : (r : List ℕ) → Shrunk r → Shrunk (lessened mc bytes operands costs o n r)
  unfolding lessened
  lessened-from r s =
      until_keeps (lessening mc bytes operands costs o n) Shrunk (λ r r' e. go_on r r' (lessening_shorter mc bytes operands costs o n r r' e)) (cells o n r) r s

  pub shrunk_le : (j : ℕ) → get_or (shrunk mc bytes operands costs o n b) j 0 ≤ get_or b j 0
  unfolding shrunk
  shrunk_le = (lessened-from (halved mc bytes operands costs o n b) halved-shrunk).less

  pub shrunk_above : (j : ℕ) → 1 ≤ get_or b j 0 → 1 ≤ get_or (shrunk mc bytes operands costs o n b) j 0
  unfolding shrunk
  shrunk_above = (lessened-from (halved mc bytes operands costs o n b) halved-shrunk).above

  pub shrunk-length : length (shrunk mc bytes operands costs o n b) ≡ length b
  unfolding shrunk
  shrunk-length = (lessened-from (halved mc bytes operands costs o n b) halved-shrunk).long

  pub lessened-still : (j : ℕ) → get_or costs j 0 ≡ 0 → get_or (lessened mc bytes operands costs o n b) j 0 ≡ get_or b j 0
  lessened-still = (lessened-from b start).still

  pub shrunk-still : (j : ℕ) → get_or costs j 0 ≡ 0 → get_or (shrunk mc bytes operands costs o n b) j 0 ≡ get_or b j 0
  unfolding shrunk
  shrunk-still = (lessened-from (halved mc bytes operands costs o n b) halved-shrunk).still

  -- the counts are never met: nothing is left to do
  pub halved_ends : halving mc bytes operands costs o n (halved mc bytes operands costs o n b) ≡ None
  unfolding halved
  halved_ends = until_ends (halving mc bytes operands costs o n) (cells o n) (halving_falls mc bytes operands costs o n) (cells o n b) b (le_refl (cells o n b))

  pub lessened_ends : lessening mc bytes operands costs o n (lessened mc bytes operands costs o n b) ≡ None
  unfolding lessened
  lessened_ends = until_ends (lessening mc bytes operands costs o n) (cells o n) (lessening_falls mc bytes operands costs o n) (cells o n b) b (le_refl (cells o n b))

  -- so that what comes out fits, or has no block above 1 on an axis with a cost
  pub lessened_small : (region mc bytes operands (lessened mc bytes operands costs o n b) o n ≤ mc.cache)
      ⊎ (greatest_score (lessened mc bytes operands costs o n b) costs o n ≡ None)
  lessened_small =
      let r : List ℕ = lessened mc bytes operands costs o n b in
      ⊎_elim
      (λ (h : region mc bytes operands r o n ≤ mc.cache). inl h)
      (λ (h : mc.cache < region mc bytes operands r o n). ⊎_elim
      (λ e. inr e)
      (λ p. absurd (
      let e : None ≡ Some (set r p.0 (get_or r p.0 0 - 1)) = sym lessened_ends ∙ lessening-at mc bytes operands costs o n r p.0 h p.1 in
      let z : ◌≡◌ {A = ℕ} 0 1 = cc in omega arith))
      (none_or_some (greatest_score r costs o n)))
      (le_or_lt (region mc bytes operands r o n) mc.cache)

-- ---- the rules as a reader expects them: done where the region fits or there is no block to shorten, else one step and on

module _ (mc : Machine) (bytes : List ℕ) (operands : ℕ) (costs : List ℕ) (o n : ℕ) (b : List ℕ) where
  pub halved_small : region mc bytes operands b o n < 2 * mc.cache → halved mc bytes operands costs o n b ≡ b
  unfolding halved
  halved_small h = until_stop (halving mc bytes operands costs o n) (cells o n b) b (halving_small mc bytes operands costs o n b h)

  pub halved_nothing : greatest_score b costs o n ≡ None → halved mc bytes operands costs o n b ≡ b
  unfolding halved
  halved_nothing e = until_stop (halving mc bytes operands costs o n) (cells o n b) b (halving_nothing mc bytes operands costs o n b e)

  pub halved-at : (i : ℕ) → 2 * mc.cache ≤ region mc bytes operands b o n → greatest_score b costs o n ≡ Some i
      → halved mc bytes operands costs o n b ≡ halved mc bytes operands costs o n (set b i ((get_or b i 0 + 1) / 2))
  unfolding halved
  halved-at i h e =
      until-step (halving mc bytes operands costs o n) (cells o n) (halving_falls mc bytes operands costs o n) b (set b i ((get_or b i 0 + 1) / 2))
      (halving-at mc bytes operands costs o n b i h e)

  pub lessened_fits : region mc bytes operands b o n ≤ mc.cache → lessened mc bytes operands costs o n b ≡ b
  unfolding lessened
  lessened_fits h = until_stop (lessening mc bytes operands costs o n) (cells o n b) b (lessening_small mc bytes operands costs o n b h)

  pub lessened_nothing : greatest_score b costs o n ≡ None → lessened mc bytes operands costs o n b ≡ b
  unfolding lessened
  lessened_nothing e = until_stop (lessening mc bytes operands costs o n) (cells o n b) b (lessening_nothing mc bytes operands costs o n b e)

  pub lessened-at : (i : ℕ) → mc.cache < region mc bytes operands b o n → greatest_score b costs o n ≡ Some i
      → lessened mc bytes operands costs o n b ≡ lessened mc bytes operands costs o n (set b i (get_or b i 0 - 1))
  unfolding lessened
  lessened-at i h e =
      until-step (lessening mc bytes operands costs o n) (cells o n) (lessening_falls mc bytes operands costs o n) b (set b i (get_or b i 0 - 1))
      (lessening-at mc bytes operands costs o n b i h e)

-- ---- a turn of a loop that follows a rule: fewer cells, scores that still fit, and the same at the end

pub record Turn (rule : List ℕ → List ℕ) (o n rank : ℕ) (costs b b' : List ℕ) : Type 0 where
  pub fewer : cells o n b' < cells o n b
  pub fit : ScoresFit rank costs b'
  pub same : rule b' ≡ rule b

module _ (mc : Machine) (bytes : List ℕ) (operands : ℕ) (costs : List ℕ) (o n rank : ℕ) (b : List ℕ) (i : ℕ)
    (fit : ScoresFit rank costs b) (pick : greatest_score b costs o n ≡ Some i) where
  turned : (rule : List ℕ → List ℕ) (b' : List ℕ) → Shorter costs o n b b' → rule b ≡ rule b' → Turn rule o n rank costs b b'
  turned rule b' s e = record { fewer = s.fewer; fit = scores_le rank costs b b' s.less fit; same = sym e }

  pub halved_turn : (v : ℕ) → v ≡ (get_or b i 0 + 1) / 2 → 2 * mc.cache ≤ region mc bytes operands b o n
      → Turn (halved mc bytes operands costs o n) o n rank costs b (set b i v)
  halved_turn v e big =
      subst⁻¹ (λ (x : ℕ). Turn (halved mc bytes operands costs o n) o n rank costs b (set b i x)) e
      (turned (halved mc bytes operands costs o n) (set b i ((get_or b i 0 + 1) / 2))
      (halving_shorter mc bytes operands costs o n b (set b i ((get_or b i 0 + 1) / 2)) (halving-at mc bytes operands costs o n b i big pick))
      (halved-at mc bytes operands costs o n b i big pick))

  pub lessened_turn : mc.cache < region mc bytes operands b o n → Turn (lessened mc bytes operands costs o n) o n rank costs b (set b i (get_or b i 0 - 1))
  lessened_turn big =
      turned (lessened mc bytes operands costs o n) (set b i (get_or b i 0 - 1))
      (lessening_shorter mc bytes operands costs o n b (set b i (get_or b i 0 - 1)) (lessening-at mc bytes operands costs o n b i big pick))
      (lessened-at mc bytes operands costs o n b i big pick)
