-- THE SCORE TO JUMP TO: the least at which the clipped blocks are still too large, a search that halves the way to it, and how many single
-- steps are left from there, at most one an axis. A jump from any score is right (Cut/Jump); this one makes it short. Assumes nothing.
use Rattle.std.specs.Prelude.{◌≡◌, refl, List, ℕ, zero, suc, ◌+◌, ◌-◌, ◌*◌, ◌/◌, ◌<◌, ◌≤◌, get_or, set, length, Option}
use Rattle.std.proofs.Common.{sym, subst, ap, ◌∙◌, ⊎_elim, eq-zero-or-pos, suc-mul, mul-le-mul_left, div-lt_iff_lt-mul, mul-div_cancel, le_refl, add-one, arith, set-set}
use Rattle.std.proofs.Math.Path.{subst⁻¹}
use Rattle.std.proofs.Math.Nat.{zero-div}
use Rattle.std.proofs.lemmas.List.{set_comm}
use Rattle.strided.specs.Base.{sum}
use Rattle.strided.specs.Region.{region}
use Rattle.strided.specs.Cut.{score, greatest_score, lessened, cells}
use Rattle.strided.specs.declared.Machine.{Machine}
use Rattle.laws.specs.Cut.Ranges.{le_or_lt, cond_lt, cond_le}
use Rattle.laws.specs.Cut.Picks.{pos_right, top_of, pick_best}
use Rattle.laws.specs.Cut.Jump.{clip_at, clipped_over, clipped, clip_at_le, clipped_none, clipped_le, clipped_in, some_above, Loss, one_loss, over_itself}
use Rattle.laws.specs.Cut.Steps.{lessened_fits, lessened-still}

-- over what another score has clipped
over-set : (s : ℕ) (costs : List ℕ) (o n : ℕ) (b out : List ℕ) (i x : ℕ) → o + n ≤ i → clipped_over s costs o n b (set out i x) ≡ set (clipped_over s costs o n b out) i x
unfolding clipped_over
over-set s costs o zero b out i x h = refl
over-set s costs o (suc n) b out i x h =
    ap (λ (l : List ℕ). set l (o + n) (clip_at s costs b (o + n))) (over-set s costs o n b out i x (omega arith))
    ∙ set_comm (clipped_over s costs o n b out) i (o + n) x (clip_at s costs b (o + n)) (let g : (i ≡ o + n → ⊥) = omega arith in g)

over_again : (s r : ℕ) (costs : List ℕ) (o n : ℕ) (b out : List ℕ) → clipped_over s costs o n b (clipped_over r costs o n b out) ≡ clipped_over s costs o n b out
unfolding clipped_over
over_again s r costs o zero b out = refl
over_again s r costs o (suc n) b out =
    let x : ℕ = clip_at r costs b (o + n) in
    ap (λ (l : List ℕ). set l (o + n) (clip_at s costs b (o + n)))
    (over-set s costs o n b (clipped_over r costs o n b out) (o + n) x (le_refl (o + n)) ∙ ap (λ (l : List ℕ). set l (o + n) x) (over_again s r costs o n b out))
    ∙ set-set (clipped_over s costs o n b out) (o + n) x (clip_at s costs b (o + n))

-- no score is above the greatest
top-most : (b costs : List ℕ) (o n i : ℕ) → o ≤ i → i < o + n → score b costs i ≤ top_of (score b costs) (greatest_score b costs o n)
top-most b costs o n i h l = ⊎_elim
    (λ (w : score b costs i ≤ 0). omega (arith, w))
    (λ (w : 0 < score b costs i). let r = pick_best b costs o n i h l w in subst⁻¹ (λ (p : Option ℕ). score b costs i ≤ top_of (score b costs) p) r.is r.most)
    (le_or_lt (score b costs i) 0)

-- s is the least score at which the clipped blocks are still too large
pub record Least (mc : Machine) (bytes : List ℕ) (operands : ℕ) (costs : List ℕ) (o n : ℕ) (b : List ℕ) (s : ℕ) : Type 0 where
  pub above : mc.cache < region mc bytes operands (clipped s costs o n b) o n
  pub below : (r : ℕ) → s ≡ r + 1 → region mc bytes operands (clipped r costs o n b) o n ≤ mc.cache

-- it lies between two scores; t is what was clipped last
pub record Seeking (mc : Machine) (bytes : List ℕ) (operands : ℕ) (costs : List ℕ) (o n : ℕ) (b t : List ℕ) (lo hi : ℕ) : Type 0 where
  pub ordered : lo ≤ hi
  pub over : (s : ℕ) → clipped_over s costs o n b t ≡ clipped s costs o n b
  pub above : mc.cache < region mc bytes operands (clipped hi costs o n b) o n
  pub below : (r : ℕ) → lo ≡ r + 1 → region mc bytes operands (clipped r costs o n b) o n ≤ mc.cache

module _ (mc : Machine) (bytes : List ℕ) (operands : ℕ) (costs : List ℕ) (o n : ℕ) (b : List ℕ) where
  pub seek-first : mc.cache < region mc bytes operands b o n → (hi : ℕ) → hi ≡ top_of (score b costs) (greatest_score b costs o n) → Seeking mc bytes operands costs o n b b 0 hi
  seek-first big hi e = record {
    ordered = omega arith;
    over = λ s. over_itself s costs o n b;
    above = subst⁻¹ (λ (l : List ℕ). mc.cache < region mc bytes operands l o n) (clipped_none hi costs o n b (λ i h l. subst⁻¹ (λ (x : ℕ). score b costs i ≤ x) e (top-most b costs o n i h l))) big;
    below = λ r z. absurd (omega arith);
  }

  module _ (t : List ℕ) (lo hi mid : ℕ) (k : Seeking mc bytes operands costs o n b t lo hi) (low : lo ≤ mid) (high : mid < hi) {t' : List ℕ} (made : t' ≡ clipped_over mid costs o n b t) where
    is : t' ≡ clipped mid costs o n b
    is = made ∙ k.over mid

    over-next : (s : ℕ) → clipped_over s costs o n b t' ≡ clipped s costs o n b
    over-next s = ap (clipped_over s costs o n b) made ∙ over_again s mid costs o n b t ∙ k.over s

    pub seek_down : mc.cache < region mc bytes operands t' o n → Seeking mc bytes operands costs o n b t' lo mid
    seek_down big = record { ordered = low; over = over-next; above = subst (λ (l : List ℕ). mc.cache < region mc bytes operands l o n) is big; below = k.below }

    pub seek-up : region mc bytes operands t' o n ≤ mc.cache → Seeking mc bytes operands costs o n b t' (mid + 1) hi
    seek-up small = record {
      ordered = omega arith;
      over = over-next;
      above = k.above;
      below = λ r e. subst (λ (x : ℕ). region mc bytes operands (clipped x costs o n b) o n ≤ mc.cache) (let g : mid ≡ r = omega arith in g)
          (subst (λ (l : List ℕ). region mc bytes operands l o n ≤ mc.cache) is small);
    }

  pub sought : (t : List ℕ) (lo hi : ℕ) → Seeking mc bytes operands costs o n b t lo hi → hi ≤ lo → Least mc bytes operands costs o n b lo
  sought t lo hi k h = record {
    above = subst (λ (x : ℕ). mc.cache < region mc bytes operands (clipped x costs o n b) o n) (let g : hi ≡ lo = omega (arith, k.ordered) in g) k.above;
    below = k.below;
  }

-- ---- how many single steps are left

module _ (mc : Machine) (bytes : List ℕ) (operands : ℕ) (costs : List ℕ) (o n r : ℕ) where
  -- the single steps do not go below blocks that fit
  abbrev Over : List ℕ → ℕ → Type 0
  Over b j = get_or (clipped r costs o n b) j 0 ≤ get_or (lessened mc bytes operands costs o n b) j 0

  over-or : (b : List ℕ) → region mc bytes operands (clipped r costs o n b) o n ≤ mc.cache → (j : ℕ) → (Loss mc bytes operands costs o n r b → Over b j) → Over b j
  over-or b fits j more = ⊎_elim
      (λ (small : region mc bytes operands b o n ≤ mc.cache).
      subst⁻¹ (λ (l : List ℕ). get_or (clipped r costs o n b) j 0 ≤ get_or l j 0) (lessened_fits mc bytes operands costs o n b small) (clipped_le r costs o n b j))
      (λ (big : mc.cache < region mc bytes operands b o n). ⊎_elim
      (λ low. absurd (let e = ap (λ (l : List ℕ). region mc bytes operands l o n) (clipped_none r costs o n b low) in omega (arith, e, fits, big)))
      (λ a. more (one_loss mc bytes operands costs o n r b a.0 a.1 a.2 a.3 big))
      (some_above (score b costs) r o n))
      (le_or_lt (region mc bytes operands b o n) mc.cache)

  over-step : (b : List ℕ) (j : ℕ) (q : Loss mc bytes operands costs o n r b) → Over q.next j → Over b j
  over-step b j q h =
      subst (λ (l : List ℕ). get_or l j 0 ≤ get_or (lessened mc bytes operands costs o n b) j 0) q.same
      (subst⁻¹ (λ (l : List ℕ). get_or (clipped r costs o n q.next) j 0 ≤ get_or l j 0) q.ends h)

  stays-over : (steps : ℕ) (b : List ℕ) → cells o n b ≤ steps → region mc bytes operands (clipped r costs o n b) o n ≤ mc.cache → (j : ℕ) → Over b j
  stays-over zero b fuel fits j = over-or b fits j (λ q. absurd (omega (arith, q.fewer, fuel)))
  stays-over (suc k) b fuel fits j =
      over-or b fits j
      (λ q. over-step b j q (stays-over k q.next (omega (arith, q.fewer, fuel)) (subst⁻¹ (λ (l : List ℕ). region mc bytes operands l o n ≤ mc.cache) q.same fits) j))

-- a score more allows each block 1 more at most
next_quotient : (r c : ℕ) → 0 < c → (r + 1) / c ≤ r / c + 1
next_quotient r c h =
    let a : r < suc (r / c) * c = (div-lt_iff_lt-mul {k = c} {x = r} {y = suc (r / c)} h).0 (le_refl (suc (r / c))) in
    let e : suc (suc (r / c)) * c ≡ suc (r / c) * c + c = suc-mul (suc (r / c)) c in
    let q = (div-lt_iff_lt-mul {k = c} {x = r + 1} {y = suc (suc (r / c))} h).1 (omega (arith, a, e, h)) in
    omega (arith, q)

clip_more : (r : ℕ) (costs b : List ℕ) (j : ℕ) → clip_at (r + 1) costs b j ≤ clip_at r costs b j + 1
clip_more r costs b j = ⊎_elim
    (λ (h : S ≤ r). omega (arith, clip_at_le (r + 1) costs b j, cond_le r S (r / c + 1) x h))
    (λ (h : r < S).
    let p = pos_right (x - 1) c r h in
    let q = next_quotient r c p in
    let u = cond_lt r S (r / c + 1) x h in
    ⊎_elim
    (λ (l : S ≤ r + 1).
    let e : (x - 1) * c ≡ r + 1 = omega (arith, l, h) in
    let d : x - 1 ≡ (r + 1) / c = sym (mul-div_cancel (x - 1) p) ∙ ap (λ (m : ℕ). m / c) e in
    omega (arith, u, q, d, cond_le (r + 1) S ((r + 1) / c + 1) x l))
    (λ (l : r + 1 < S). omega (arith, u, q, cond_lt (r + 1) S ((r + 1) / c + 1) x l))
    (le_or_lt S (r + 1)))
    (le_or_lt S r)
  where
    x : ℕ
    x = get_or b j 0

    c : ℕ
    c = get_or costs j 0

    S : ℕ
    S = score b costs j

more_each : (f g : ℕ → ℕ) (o n : ℕ) → ((i : ℕ) → o ≤ i → i < o + n → f i ≤ g i + 1) → sum f o n ≤ sum g o n + n
unfolding sum
more_each f g o zero h = omega arith
more_each f g o (suc n) h = omega (arith, more_each f g o n (λ i p q. h i p (omega arith)), h (o + n) (omega arith) (omega arith))

-- at the score 0 a block of some cost is 1 at most
clip_none : (costs b : List ℕ) (j : ℕ) → 0 < get_or costs j 0 → clip_at 0 costs b j ≤ 1
clip_none costs b j h = ⊎_elim
    (λ (l : score b costs j ≤ 0).
    let m : (get_or b j 0 - 1) * 1 ≤ (get_or b j 0 - 1) * get_or costs j 0 = mul-le-mul_left (get_or b j 0 - 1) h in
    omega (arith, cond_le 0 (score b costs j) (0 / get_or costs j 0 + 1) (get_or b j 0) l, m, l))
    (λ (l : 0 < score b costs j). omega (arith, cond_lt 0 (score b costs j) (0 / get_or costs j 0 + 1) (get_or b j 0) l, zero-div (get_or costs j 0)))
    (le_or_lt (score b costs j) 0)

-- FROM THE LEAST SCORE at most as many single steps are left as there are axes: each step takes 1 off one block
pub few-left : (mc : Machine) (bytes : List ℕ) (operands : ℕ) (costs : List ℕ) (o n : ℕ) (b : List ℕ) (s : ℕ) → o + n ≤ length b
    → Least mc bytes operands costs o n b s → cells o n (clipped s costs o n b) ≤ cells o n (lessened mc bytes operands costs o n b) + n
few-left mc bytes operands costs o n b zero long k =
    more_each (λ i. get_or (clipped 0 costs o n b) i 0) (λ i. get_or (lessened mc bytes operands costs o n b) i 0) o n
    (λ i p q. ⊎_elim
    -- an axis that has no cost stays as it is
    (λ (z : get_or costs i 0 ≡ 0). omega (arith, clipped_le 0 costs o n b i, lessened-still mc bytes operands costs o n b i z))
    (λ (c : 0 < get_or costs i 0). omega (arith, clipped_in 0 costs o n b i p q (omega arith), clip_none costs b i c))
    (eq-zero-or-pos (get_or costs i 0)))
few-left mc bytes operands costs o n b (suc r) long k =
    more_each (λ i. get_or (clipped (suc r) costs o n b) i 0) (λ i. get_or (lessened mc bytes operands costs o n b) i 0) o n
    (λ i p q.
    let u = clipped_in (suc r) costs o n b i p q (omega arith) in
    let v = clipped_in r costs o n b i p q (omega arith) in
    let w = stays-over mc bytes operands costs o n r (cells o n b) b (le_refl (cells o n b)) (k.below r (sym (add-one r))) i in
    let m = subst (λ (t : ℕ). clip_at t costs b i ≤ clip_at r costs b i + 1) (add-one r) (clip_more r costs b i) in
    omega (arith, u, v, w, m))
