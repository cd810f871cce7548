-- The block to shorten: over one axis more, and what it is: its block is above 1 and its axis has a cost, its score is no less than any, and
-- greater than any behind it. Assumes nothing.
use Rattle.std.specs.Prelude.{◌≡◌, refl, List, ◌⊎◌, true, false, cond, ltb, get_or, length, Option, None, Some}
use Rattle.std.proofs.Common.{sym, subst, ap, ◌∙◌, inl, inr, le_of_eq, eq-or-lt_of_le, eq-zero-or-pos, mul-zero, zero-mul, mul-pos, arith, lt-ltb, ltb-true}
use Rattle.std.proofs.Math.Path.{subst⁻¹}
use Rattle.std.proofs.Math.Logic.{⊎_elim}
use Prim.Native.Nat.{ℕ, zero, suc, ◌+◌, ◌-◌, ◌*◌, ◌<◌, ◌≤◌}
use Rattle.std.proofs.Math.ListN.{get_or-eq_default}
use Rattle.strided.specs.Cut.{score, weighed, later, greatest_score}
use Rattle.laws.specs.Base.Tests.{and_both, both_and}
use Rattle.laws.specs.Cut.Ranges.{le_or_lt, true_or_false, cond_true, cond_false, cond_lt, cond_le, none_yet, one_more_lem, at_end}

-- a product above something has both factors above 0
pub pos_left : (a c s : ℕ) → s < a * c → 0 < a
pos_left a c s h = ⊎_elim
    (λ e. absurd (omega (arith, ap (λ (x : ℕ). x * c) e, zero-mul c)))
    (λ p. p)
    (eq-zero-or-pos a)

pub pos_right : (a c s : ℕ) → s < a * c → 0 < c
pos_right a c s h = ⊎_elim
    (λ e. absurd (omega (arith, ap (λ (x : ℕ). a * x) e, mul-zero a)))
    (λ p. p)
    (eq-zero-or-pos c)

-- ---- an axis is weighed exactly where its score is above 0

module _ (b costs : List ℕ) (i : ℕ) where
  pub weighed_above : weighed b costs i ≡ true → 1 < get_or b i 0
  weighed_above e = ltb-true 1 (get_or b i 0) (and_both (ltb 1 (get_or b i 0)) (ltb 0 (get_or costs i 0)) e).0

  pub weighed_cost : weighed b costs i ≡ true → 0 < get_or costs i 0
  weighed_cost e = ltb-true 0 (get_or costs i 0) (and_both (ltb 1 (get_or b i 0)) (ltb 0 (get_or costs i 0)) e).1

  pub weighed-score : weighed b costs i ≡ true → 0 < score b costs i
  weighed-score e = let a = weighed_above e in mul-pos (let p : 0 < get_or b i 0 - 1 = omega arith in p) (weighed_cost e)

  pub score-weighed : 0 < score b costs i → weighed b costs i ≡ true
  score-weighed h =
      let a = pos_left (get_or b i 0 - 1) (get_or costs i 0) 0 h in
      both_and (ltb 1 (get_or b i 0)) (ltb 0 (get_or costs i 0))
      (lt-ltb 1 (get_or b i 0) (omega arith)) (lt-ltb 0 (get_or costs i 0) (pos_right (get_or b i 0 - 1) (get_or costs i 0) 0 h))

-- the score of the pick; and the score to reach, at which an axis is picked in its place
abbrev pub top_of : (ℕ → ℕ) → Option ℕ → ℕ
top_of s None = 0
top_of s (Some j) = s j

abbrev pub bar_of : (ℕ → ℕ) → Option ℕ → ℕ
bar_of s None = 1
bar_of s (Some j) = s j

later_wins : (s : ℕ → ℕ) (i : ℕ) (p : Option ℕ) → top_of s p ≤ s i → later s i p ≡ Some i
later_wins s i None h = refl
later_wins s i (Some j) h = cond_le (s i) (s j) (Some j) (Some i) h

later_loses : (s : ℕ → ℕ) (i : ℕ) (p : Option ℕ) → s i < top_of s p → later s i p ≡ p
later_loses s i None h = absurd (omega arith)
later_loses s i (Some j) h = cond_lt (s i) (s j) (Some j) (Some i) h

-- ---- what is picked is an axis of the tail that is weighed

pub record Pickable (b costs : List ℕ) (o n i : ℕ) : Type 0 where
  pub from : o ≤ i
  pub below : i < o + n
  pub above : 1 < get_or b i 0
  pub cost : 0 < get_or costs i 0
  pub score_above : 0 < score b costs i

later_cases : (s : ℕ → ℕ) (i : ℕ) (p : Option ℕ) → (later s i p ≡ Some i) ⊎ (later s i p ≡ p)
later_cases s i None = inl refl
later_cases s i (Some j) = ⊎_elim
    (λ (h : s j ≤ s i). inl (cond_le (s i) (s j) (Some j) (Some i) h))
    (λ (h : s i < s j). inr (cond_lt (s i) (s j) (Some j) (Some i) h))
    (le_or_lt (s j) (s i))

-- over one axis more the pick is that axis, or as it was
pick_cases : (b costs : List ℕ) (o n : ℕ)
    → ((weighed b costs (o + n) ≡ true) × (greatest_score b costs o (suc n) ≡ Some (o + n))) ⊎ (greatest_score b costs o (suc n) ≡ greatest_score b costs o n)
unfolding greatest_score
pick_cases b costs o n =
    let w = weighed b costs (o + n) in
    let old : Option ℕ = greatest_score b costs o n in
    let new : Option ℕ = later (score b costs) (o + n) old in
    ⊎_elim
    (λ (h : w ≡ true). ⊎_elim
    (λ e. inl (h, cond_true w new old h ∙ e))
    (λ e. inr (cond_true w new old h ∙ e))
    (later_cases (score b costs) (o + n) old))
    (λ (h : w ≡ false). inr (cond_false w new old h))
    (true_or_false w)

some_inj : (i j : ℕ) (p : Option ℕ) → p ≡ Some i → p ≡ Some j → i ≡ j
some_inj i j p e e' = cc

none_picked : (b costs : List ℕ) (o i : ℕ) → greatest_score b costs o zero ≡ Some i → ⊥
unfolding greatest_score
none_picked b costs o i e = let z : ◌≡◌ {A = ℕ} 0 1 = cc in omega arith

pub pick_is : (b costs : List ℕ) (o n i : ℕ) → greatest_score b costs o n ≡ Some i → Pickable b costs o n i
pick_is b costs o zero i e = absurd (none_picked b costs o i e)
pick_is b costs o (suc n) i e = ⊎_elim
    (λ w. let q : i ≡ o + n = some_inj i (o + n) (greatest_score b costs o (suc n)) e w.1 in
    let v : weighed b costs i ≡ true = subst⁻¹ (λ (k : ℕ). weighed b costs k ≡ true) q w.0 in
    record {
      from = omega arith;
      below = omega arith;
      above = weighed_above b costs i v;
      cost = weighed_cost b costs i v;
      score_above = weighed-score b costs i v;
    })
    (λ w. let r = pick_is b costs o n i (sym w ∙ e) in
    record { from = r.from; below = omega arith; above = r.above; cost = r.cost; score_above = r.score_above })
    (pick_cases b costs o n)

-- a block above 1 is there
pub above_there : (b : List ℕ) (i : ℕ) → 1 < get_or b i 0 → i < length b
above_there b i h = ⊎_elim
    (λ (l : length b ≤ i). absurd (omega (arith, get_or-eq_default b 0 l)))
    (λ l. l)
    (le_or_lt (length b) i)

-- ---- as a loop picks: it holds the score to reach, which is above 0

pub pick_start : (b costs : List ℕ) (o : ℕ) → greatest_score b costs o (o - o) ≡ None
unfolding greatest_score
pick_start b costs o = none_yet (greatest_score b costs o) o

pick-step : (b costs : List ℕ) (o i : ℕ) → o ≤ i
    → greatest_score b costs o (i + 1 - o)
    ≡ cond (weighed b costs i) (later (score b costs) i (greatest_score b costs o (i - o))) (greatest_score b costs o (i - o))
unfolding greatest_score
pick-step b costs o i h =
    let old : Option ℕ = greatest_score b costs o (i - o) in
    one_more_lem (greatest_score b costs o) o i h
    ∙ ap (λ (x : ℕ). cond (weighed b costs x) (later (score b costs) x old) old) (at_end o i h)

bar_above : (s : ℕ → ℕ) (p : Option ℕ) → ((j : ℕ) → p ≡ Some j → 0 < s j) → 0 < bar_of s p
bar_above s None f = omega arith
bar_above s (Some j) f = f j refl

top_bar : (s : ℕ → ℕ) (p : Option ℕ) → top_of s p ≤ bar_of s p
top_bar s None = omega arith
top_bar s (Some j) = le_of_eq refl

bar_top : (s : ℕ → ℕ) (p : Option ℕ) (x : ℕ) → 0 < x → x < bar_of s p → x < top_of s p
bar_top s None x h l = absurd (omega arith)
bar_top s (Some j) x h l = l

module _ (b costs : List ℕ) (o i : ℕ) (h : o ≤ i) where
  old : Option ℕ
  old = greatest_score b costs o (i - o)

  pub pick_wins : bar_of (score b costs) (greatest_score b costs o (i - o)) ≤ score b costs i → greatest_score b costs o (i + 1 - o) ≡ Some i
  unfolding old
  pick_wins l =
      let s : ℕ → ℕ = score b costs in
      let p : 0 < bar_of s old = bar_above s old (λ j e. (pick_is b costs o (i - o) j e).score_above) in
      pick-step b costs o i h
      ∙ cond_true (weighed b costs i) (later s i old) old (score-weighed b costs i (omega (arith, p, l)))
      ∙ later_wins s i old (omega (arith, l, top_bar s old))

  pub pick_loses : score b costs i < bar_of (score b costs) (greatest_score b costs o (i - o)) → greatest_score b costs o (i + 1 - o) ≡ greatest_score b costs o (i - o)
  unfolding old
  pick_loses l =
      let s : ℕ → ℕ = score b costs in
      pick-step b costs o i h
      ∙ ⊎_elim
      (λ (w : weighed b costs i ≡ true).
      cond_true (weighed b costs i) (later s i old) old w ∙ later_loses s i old (bar_top s old (s i) (weighed-score b costs i w) l))
      (λ (w : weighed b costs i ≡ false). cond_false (weighed b costs i) (later s i old) old w)
      (true_or_false (weighed b costs i))

-- ---- the last of the greatest scores

pub record Best (b costs : List ℕ) (o n i : ℕ) : Type 0 where
  pub at : ℕ
  pub is : greatest_score b costs o n ≡ Some at
  pub most : score b costs i ≤ score b costs at
  pub last : at < i → score b costs i < score b costs at

top-at : (s : ℕ → ℕ) (p : Option ℕ) (x : ℕ) → x < top_of s p → (j : ℕ) × (p ≡ Some j) × (x < s j)
top-at s None x h = absurd (omega arith)
top-at s (Some j) x h = (j, refl, h)

-- against each axis that is weighed
pub pick_best : (b costs : List ℕ) (o n i : ℕ) → o ≤ i → i < o + n → 0 < score b costs i → Best b costs o n i
unfolding greatest_score
pick_best b costs o zero i h l a = absurd (omega arith)
pick_best b costs o (suc n) i h l a =
    let s : ℕ → ℕ = score b costs in
    let v = weighed b costs (o + n) in
    let old : Option ℕ = greatest_score b costs o n in
    let new : Option ℕ = later s (o + n) old in
    ⊎_elim
    (λ (e : i ≡ o + n).
    let a' : v ≡ true = score-weighed b costs (o + n) (subst (λ (k : ℕ). 0 < score b costs k) e a) in
    let se : s i ≡ s (o + n) = ap s e in
    ⊎_elim
    (λ (w : top_of s old ≤ s (o + n)). record {
      at = o + n;
      is = cond_true v new old a' ∙ later_wins s (o + n) old w;
      most = le_of_eq se;
      last = λ q. absurd (omega arith);
    })
    (λ (w : s (o + n) < top_of s old).
    let t = top-at s old (s (o + n)) w in
    record {
      at = t.0;
      is = cond_true v new old a' ∙ later_loses s (o + n) old w ∙ t.1;
      most = omega (arith, t.2, se);
      last = λ q. omega (arith, t.2, se);
    })
    (le_or_lt (top_of s old) (s (o + n))))
    (λ (e : i < o + n).
    let r = pick_best b costs o n i h e a in
    ⊎_elim
    (λ (a' : v ≡ true).
    let te : top_of s old ≡ s r.at = ap (top_of s) r.is in
    ⊎_elim
    (λ (w : top_of s old ≤ s (o + n)). record {
      at = o + n;
      is = cond_true v new old a' ∙ later_wins s (o + n) old w;
      most = omega (arith, r.most, te);
      last = λ q. absurd (omega arith);
    })
    (λ (w : s (o + n) < top_of s old). record {
      at = r.at;
      is = cond_true v new old a' ∙ later_loses s (o + n) old w ∙ r.is;
      most = r.most;
      last = r.last;
    })
    (le_or_lt (top_of s old) (s (o + n))))
    (λ (w : v ≡ false). record {
      at = r.at;
      is = cond_false v new old w ∙ r.is;
      most = r.most;
      last = r.last;
    })
    (true_or_false v))
    (eq-or-lt_of_le {n = i} {m = o + n} (omega arith))
