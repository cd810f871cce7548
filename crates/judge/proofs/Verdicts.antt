-- WHAT THE VERDICT MEANS, over indices: each of the four by a claim of its own, of which exactly one holds.
-- Assumes nothing.
use Rattle.std.specs.Prelude.{◌≡◌, ◌↔◌, Bool, true, false, cond, ◌&&◌, ◌||◌, List, [], ◌∷◌, ℕ, zero, suc, ◌+◌, ◌≤◌, ◌<◌, ltb, Some}
use Rattle.std.proofs.Math.Path.{refl}
use Rattle.std.proofs.Common.{sym, ap, ◌∙◌, subst, ⊎_elim, true≢false, zero-add, arith, ltb-true, ltb-false}
use Rattle.std.proofs.lemmas.Bool.{false≢true, not-true, not-false}
use Rattle.strided.specs.Base.{nth, every}
use Rattle.strided.specs.Layout.{total, Within, within}
use Rattle.laws.specs.Base.Tests.{and_both, both_and, or_none}
use Rattle.laws.specs.Base.Counting.{count}
use Rattle.laws.specs.Base.Layouts.{within_true, true_within}
use Rattle.laws.specs.Base.Ranges.{below_or, every_fails}
use Rattle.laws.specs.Refusals.Operands.{some_of_where, some_of_at}
use Rattle.judge.specs.Visits.{Visit}
use Rattle.judge.specs.Judge.{moved, cells, met, all_in, leaves, some_leaves, index_at, met_at, some_again, all_met, verdict}
use Rattle.judge.specs.Counts.{Stands, often-count, counted_stands, stands_counted, once_stands, stands_once, twice_stands, nth-run, run-nth}
use Rattle.judge.proofs.Places.{place-below, index_place, index_within}
use Rattle.judge.specs.Laying.{place}
use Rattle.judge.specs.declared.Verdict.{Verdict}
use Rattle.judge.specs.declared.Verdict.TheVariants.{Accepted, Short, Double, Outside}

pub both_ways : (a b : Bool) → (a ≡ true → b ≡ true) → (b ≡ true → a ≡ true) → a ≡ b
both_ways true true f g = refl
both_ways true false f g = sym (f refl)
both_ways false true f g = g refl
both_ways false false f g = refl

-- ---- none leaves: every cell lies within the extents

pub in_within : (es : List ℕ) (l : List (List ℕ)) → all_in es l ≡ true → (k : ℕ) (y : List ℕ) → nth l k ≡ Some y → Within es y
in_within es [] h k y e = let z : ◌≡◌ {A = ℕ} 0 1 = cc e in absurd (omega arith)
in_within es (x ∷ l) h zero y e =
    let q : x ≡ y = cc e in
    subst (Within es) q (true_within es x (and_both (within es x) (all_in es l) h).0)
in_within es (x ∷ l) h (suc k) y e = in_within es l (and_both (within es x) (all_in es l) h).1 k y e

pub within_in : (es : List ℕ) (l : List (List ℕ)) → ((k : ℕ) (y : List ℕ) → nth l k ≡ Some y → Within es y) → all_in es l ≡ true
within_in es [] h = refl
within_in es (x ∷ l) h = both_and (within es x) (all_in es l) (within_true es x (h 0 x refl)) (within_in es l (λ k y e. h (suc k) y e))

pub in_cells_lem : (es : List ℕ) (v : Visit) → leaves es v ≡ false → (k : ℕ) → k < v.len → Within es (moved v.axis k v.index)
in_cells_lem es v h k l =
    in_within es (cells v) (not-false (all_in es (cells v)) h) k (moved v.axis k v.index)
    (nth-run (λ k. moved v.axis k v.index) v.len 0 k l ∙ ap (λ (j : ℕ). Some (moved v.axis j v.index)) (zero-add k))

-- ---- where an index lies

-- run i of the list has the index x as its cell k
pub record Lies (vs : List Visit) (i k : ℕ) (x : List ℕ) : Type 0 where
  pub visit : Visit
  pub there : nth vs i ≡ Some visit
  pub below : k < visit.len
  pub is : x ≡ moved visit.axis k visit.index

pub lies_stands : (vs : List Visit) (i k : ℕ) (x : List ℕ) → Lies vs i k x → Stands vs cells i k x
lies_stands vs i k x h =
    let v = h.visit in
    record {
      of = v;
      element = h.there;
      inside =
          nth-run (λ (k : ℕ). moved v.axis k v.index) v.len 0 k h.below ∙ ap (λ (j : ℕ). Some (moved v.axis j v.index)) (zero-add k)
          ∙ ap (λ (y : List ℕ). Some y) (sym h.is);
    }

pub stands_lies : (vs : List Visit) (i k : ℕ) (x : List ℕ) → Stands vs cells i k x → Lies vs i k x
stands_lies vs i k x s =
    let v : Visit = s.of in
    let p = run-nth (λ (k : ℕ). moved v.axis k v.index) v.len 0 k x s.inside in
    record { visit = v; there = s.element; below = p.0; is = p.1 ∙ ap (λ (j : ℕ). moved v.axis j v.index) (zero-add k) }

-- "no run leaves the layout"
abbrev pub NoneLeaves : List ℕ → List Visit → Type 0
NoneLeaves es vs = (i k : ℕ) (x : List ℕ) → Lies vs i k x → Within es x

-- "lies in the runs exactly once"
abbrev pub LiesOnce : List Visit → List ℕ → Type 0
LiesOnce vs x = (i : ℕ) × (k : ℕ) × Lies vs i k x × ((j l : ℕ) → Lies vs j l x → (j ≡ i) × (l ≡ k))

-- "an index comes again"
abbrev pub LiesTwice : List Visit → List ℕ → Type 0
LiesTwice vs x = (i : ℕ) × (k : ℕ) × (j : ℕ) × (l : ℕ) × Lies vs i k x × Lies vs j l x × ((i ≡ j) × (k ≡ l) → ⊥)

abbrev pub LiesNowhere : List Visit → List ℕ → Type 0
LiesNowhere vs x = (i k : ℕ) → Lies vs i k x → ⊥

once_lies : (vs : List Visit) (x : List ℕ) → LiesOnce vs x → count x (met vs) ≡ 1
once_lies vs x o =
    once_stands cells x vs o.0 o.1 (lies_stands vs o.0 o.1 x o.2) (λ j l s. o.3 j l (stands_lies vs j l x s))

pub lies_once : (vs : List Visit) (x : List ℕ) → 0 < count x (met vs) → count x (met vs) ≤ 1 → LiesOnce vs x
lies_once vs x h c =
    let w = counted_stands cells x vs h in
    (w.0, w.1, stands_lies vs w.0 w.1 x w.2, λ j l s. stands_once cells x vs j l w.0 w.1 c (lies_stands vs j l x s) w.2)

-- ---- the three tests

pub some_leaves_none : (es : List ℕ) (vs : List Visit) → some_leaves es vs ≡ false → NoneLeaves es vs
some_leaves_none es [] h i k x l = let q = l.there in let z : ◌≡◌ {A = ℕ} 0 1 = cc q in absurd (omega arith)
some_leaves_none es (v ∷ vs) h zero k x l =
    let o = or_none (leaves es v) (some_leaves es vs) h in
    let q = l.there in
    let e : v ≡ l.visit = cc q in
    subst (Within es) (sym l.is) (in_cells_lem es l.visit (ap (leaves es) (sym e) ∙ o.0) k l.below)
some_leaves_none es (v ∷ vs) h (suc i) k x l =
    let o = or_none (leaves es v) (some_leaves es vs) h in
    some_leaves_none es vs o.1 i k x (record { visit = l.visit; there = l.there; below = l.below; is = l.is })

-- some index of a list is not within
out-nth : (es : List ℕ) (l : List (List ℕ)) → all_in es l ≡ false → (k : ℕ) × (y : List ℕ) × (nth l k ≡ Some y) × (Within es y → ⊥)
out-nth es [] h = absurd (true≢false h)
out-nth es (x ∷ l) h = go (within es x) refl h (out-nth es l)
  where
    go : (b : Bool) → within es x ≡ b → (b && all_in es l) ≡ false → (all_in es l ≡ false → (k : ℕ) × (y : List ℕ) × (nth l k ≡ Some y) × (Within es y → ⊥))
        → (k : ℕ) × (y : List ℕ) × (nth (x ∷ l) k ≡ Some y) × (Within es y → ⊥)
    go true q g ih = let r = ih g in (suc r.0, r.1, r.2, r.3)
    go false q g ih = (0, x, refl, λ w. absurd (false≢true (sym q ∙ within_true es x w)))

pub some_leaves_some : (es : List ℕ) (vs : List Visit) → some_leaves es vs ≡ true → (i : ℕ) × (k : ℕ) × (x : List ℕ) × Lies vs i k x × (Within es x → ⊥)
some_leaves_some es [] h = absurd (false≢true h)
some_leaves_some es (v ∷ vs) h = go (leaves es v) refl h (some_leaves_some es vs)
  where
    go : (b : Bool) → leaves es v ≡ b → (b || some_leaves es vs) ≡ true
        → (some_leaves es vs ≡ true → (i : ℕ) × (k : ℕ) × (x : List ℕ) × Lies vs i k x × (Within es x → ⊥))
        → (i : ℕ) × (k : ℕ) × (x : List ℕ) × Lies (v ∷ vs) i k x × (Within es x → ⊥)
    go true q g ih =
        let r = out-nth es (cells v) (not-true (all_in es (cells v)) q) in
        let p = run-nth (λ (k : ℕ). moved v.axis k v.index) v.len 0 r.0 r.1 r.2 in
        (0, r.0, r.1, record { visit = v; there = refl; below = p.0; is = p.1 ∙ ap (λ (j : ℕ). moved v.axis j v.index) (zero-add r.0) }, r.3)
    go false q g ih =
        let r = ih g in
        (suc r.0, r.1, r.2, record { visit = r.3.visit; there = r.3.there; below = r.3.below; is = r.3.is }, r.4)

-- tests over a range: where all hold, where one fails
pub every-at : (t : ℕ → Bool) (n : ℕ) → every t 0 n ≡ true → (j : ℕ) → j < n → t j ≡ true
every-at t n e j h = go (t j) refl
  where
    go : (b : Bool) → t j ≡ b → t j ≡ true
    go true q = q
    go false q = absurd (false≢true (sym (every_fails t 0 n j h (ap t (zero-add j) ∙ q)) ∙ e))

not-every : (t : ℕ → Bool) (n : ℕ) → every t 0 n ≡ false → (i : ℕ) × (i < n) × (t i ≡ false)
unfolding every
not-every t zero h = absurd (true≢false h)
not-every t (suc n) h = go (t (0 + n)) refl h (not-every t n)
  where
    go : (b : Bool) → t (0 + n) ≡ b → cond b (every t 0 n) false ≡ false → (every t 0 n ≡ false → (i : ℕ) × (i < n) × (t i ≡ false)) → (i : ℕ) × (i < suc n) × (t i ≡ false)
    go true q g ih = let r = ih g in let l : r.0 < n = r.1 in (r.0, omega arith, r.2)
    go false q g ih = (0 + n, omega arith, q)

module _ (es : List ℕ) (vs : List Visit) where
  -- a place's count is its index's, and each index has a place
  at_place : (x : List ℕ) → Within es x → met_at es vs (place es x) ≡ count x (met vs)
  at_place x w = often-count (index_at es (place es x)) (met vs) ∙ ap (λ (y : List ℕ). count y (met vs)) (index_place es x w)

  again_some : some_again es vs ≡ true → (x : List ℕ) × Within es x × (1 < count x (met vs))
  again_some h =
      let r = some_of_where (λ n. ltb 1 (met_at es vs n)) (total es) h in
      (index_at es r.0, index_within es r.0 r.1, omega (arith, ltb-true 1 (met_at es vs r.0) r.2, often-count (index_at es r.0) (met vs)))

  again_none : some_again es vs ≡ false → (x : List ℕ) → Within es x → count x (met vs) ≤ 1
  again_none h x w =
      let t = ltb-false 1 (met_at es vs (place es x)) (some_of_at (λ n. ltb 1 (met_at es vs n)) (total es) h (place es x) (place-below es x w)) in
      omega (arith, t, at_place x w)

  met_all : all_met es vs ≡ true → (x : List ℕ) → Within es x → 0 < count x (met vs)
  met_all h x w =
      let t = ltb-true 0 (met_at es vs (place es x)) (every-at (λ n. ltb 0 (met_at es vs n)) (total es) h (place es x) (place-below es x w)) in
      omega (arith, t, at_place x w)

  met-not : all_met es vs ≡ false → (x : List ℕ) × Within es x × (count x (met vs) ≡ 0)
  met-not h =
      let r = not-every (λ n. ltb 0 (met_at es vs n)) (total es) h in
      let t : met_at es vs r.0 ≤ 0 = ltb-false 0 (met_at es vs r.0) r.2 in
      (index_at es r.0, index_within es r.0 r.1, omega (arith, t, often-count (index_at es r.0) (met vs)))

  -- ---- WHAT EACH VERDICT MEANS, over indices alone

  -- "The tool accepts exactly if no run leaves the layout and each index of it lies in the runs exactly once"
  abbrev pub WhenAccepted : Type 0
  WhenAccepted = NoneLeaves es vs × ((x : List ℕ) → Within es x → LiesOnce vs x)

  -- "outside if any run leaves the layout"
  abbrev pub WhenOutside : Type 0
  WhenOutside = (i : ℕ) × (k : ℕ) × (x : List ℕ) × Lies vs i k x × (Within es x → ⊥)

  -- "else double if an index comes again"
  abbrev pub WhenDouble : Type 0
  WhenDouble = NoneLeaves es vs × ((x : List ℕ) × Within es x × LiesTwice vs x)

  -- "else short": none comes again, and one does not come
  abbrev pub WhenShort : Type 0
  WhenShort = NoneLeaves es vs × ((x : List ℕ) → LiesTwice vs x → ⊥) × ((x : List ℕ) × Within es x × LiesNowhere vs x)

  -- the claim of a verdict
  abbrev pub When : Verdict → Type 0
  When Accepted = WhenAccepted
  When Short = WhenShort
  When Double = WhenDouble
  When Outside = WhenOutside

  twice_count : (x : List ℕ) → LiesTwice vs x → 1 < count x (met vs)
  twice_count x t =
      ⊎_elim (λ (h : 1 < count x (met vs)). h)
      (λ (h : count x (met vs) ≤ 1). absurd (t.6 (stands_once cells x vs t.0 t.1 t.2 t.3 h (lies_stands vs t.0 t.1 x t.4) (lies_stands vs t.2 t.3 x t.5))))
      (below_or 1 (count x (met vs)))

  -- the tests decide for one verdict, and its claim holds
  holds : (a b c : Bool) → some_leaves es vs ≡ a → some_again es vs ≡ b → all_met es vs ≡ c → When (cond a Outside (cond b Double (cond c Accepted Short)))
  holds true b c p q r = some_leaves_some es vs p
  holds false true c p q r =
      let w = again_some q in
      let t = twice_stands cells w.0 vs w.2 in (
        some_leaves_none es vs p,
        (w.0, w.1, (t.0, t.1, t.2, t.3, stands_lies vs t.0 t.1 w.0 t.4, stands_lies vs t.2 t.3 w.0 t.5, t.6)),
      )
  holds false false true p q r = (some_leaves_none es vs p, λ x w. lies_once vs x (met_all r x w) (again_none q x w))
  holds false false false p q r =
      let w = met-not r in
      let n = some_leaves_none es vs p in (
        n,
        (λ x t. (let h : count x (met vs) ≤ 1 = again_none q x (n t.0 t.1 x t.4) in omega (arith, h, twice_count x t))),
        (w.0, w.1, λ i k l. (let h : 0 < count w.0 (met vs) = stands_counted cells w.0 vs i k (lies_stands vs i k w.0 l) in omega (arith, h, w.2))),
      )

  -- ONE HOLDS: the verdict's own claim
  pub verdict-holds : When (verdict es vs)
  unfolding verdict
  verdict-holds = holds (some_leaves es vs) (some_again es vs) (all_met es vs) refl refl refl

  once_twice : WhenAccepted → WhenDouble → ⊥
  once_twice p q = let x = q.1.0 in let h = once_lies vs x (p.1 x q.1.1) in let g = twice_count x q.1.2 in omega (arith, h, g)

  -- THEY EXCLUDE EACH OTHER: two claims that hold are of one verdict
  pub excluded : (a b : Verdict) → When a → When b → a ≡ b
  excluded Accepted Accepted p q = refl
  excluded Accepted Short p q = absurd (let w = p.1 q.2.0 q.2.1 in q.2.2 w.0 w.1 w.2)
  excluded Accepted Double p q = absurd (once_twice p q)
  excluded Accepted Outside p q = absurd (q.4 (p.0 q.0 q.1 q.2 q.3))
  excluded Short Accepted p q = absurd (let w = q.1 p.2.0 p.2.1 in p.2.2 w.0 w.1 w.2)
  excluded Short Short p q = refl
  excluded Short Double p q = absurd (p.1 q.1.0 q.1.2)
  excluded Short Outside p q = absurd (q.4 (p.0 q.0 q.1 q.2 q.3))
  excluded Double Accepted p q = absurd (once_twice q p)
  excluded Double Short p q = absurd (q.1 p.1.0 p.1.2)
  excluded Double Double p q = refl
  excluded Double Outside p q = absurd (q.4 (p.0 q.0 q.1 q.2 q.3))
  excluded Outside Accepted p q = absurd (p.4 (q.0 p.0 p.1 p.2 p.3))
  excluded Outside Short p q = absurd (p.4 (q.0 p.0 p.1 p.2 p.3))
  excluded Outside Double p q = absurd (p.4 (q.0 p.0 p.1 p.2 p.3))
  excluded Outside Outside p q = refl

  -- THE VERDICT IS EXACT: it is the one whose claim holds
  pub verdict_iff : (a : Verdict) → (verdict es vs ≡ a) ↔ When a
  verdict_iff a = (λ e. subst When e verdict-holds, λ h. excluded (verdict es vs) a verdict-holds h)

  -- in the words of the request
  pub accepted_iff : (verdict es vs ≡ Accepted) ↔ WhenAccepted
  accepted_iff = verdict_iff Accepted
