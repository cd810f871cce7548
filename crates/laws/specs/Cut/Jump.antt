-- A jump: every score above s is taken down to s or below in one step. Where the region is then still above the cache, the single steps of
-- `lessened` pass that place, whatever the ties. Assumes nothing.
use Rattle.std.specs.Prelude.{◌≡◌, refl, cond, List, ◌⊎◌, ℕ, zero, suc, ◌+◌, ◌-◌, ◌*◌, ◌/◌, ◌<◌, ◌≤◌, ltb, get_or, set, length}
use Rattle.std.proofs.Common.{sym, ap, ◌∙◌, ⊎_elim, inl, inr, div-lt_iff_lt-mul, eq-or-lt_of_le, le_of_eq, lt_of_lt_of_le, le_refl, arith, length-set, get_or-set_same, get_or-set_other, ext_get_or}
use Rattle.std.proofs.Math.Path.{subst⁻¹}
use Rattle.std.proofs.Math.Decide.{ℕ_discrete}
use Rattle.std.proofs.Math.ListN.{get_or-eq_default}
use Rattle.strided.specs.Region.{region}
use Rattle.strided.specs.Cut.{score, lessening, lessened, cells}
use Rattle.strided.specs.declared.Machine.{Machine}
use Rattle.laws.specs.Cut.Ranges.{le_or_lt, cond_lt, cond_le, none_yet, one_more_lem, at_end}
use Rattle.laws.specs.Cut.Until.{until-step}
use Rattle.laws.specs.Cut.Picks.{pos_right, pick_is, pick_best, above_there}
use Rattle.laws.specs.Cut.Steps.{ScoresFit, scores_le, lessening_falls, lessening-at}
use Rattle.laws.specs.Cut.Grow.{region_mono}

-- the greatest block of axis i whose score is at most s
abbrev pub clip_at : ℕ → List ℕ → List ℕ → ℕ → ℕ
clip_at s costs b i = cond (ltb s (score b costs i)) (s / get_or costs i 0 + 1) (get_or b i 0)

-- on each of the n axes from o on; written over another list, and over the blocks themselves
unfoldable pub clipped_over : ℕ → List ℕ → ℕ → ℕ → List ℕ → List ℕ → List ℕ
clipped_over s costs o zero b out = out
clipped_over s costs o (suc n) b out = set (clipped_over s costs o n b out) (o + n) (clip_at s costs b (o + n))

unfoldable pub clipped : ℕ → List ℕ → ℕ → ℕ → List ℕ → List ℕ
clipped s costs o zero b = b
clipped s costs o (suc n) b = set (clipped s costs o n b) (o + n) (clip_at s costs b (o + n))

-- a block whose score is above s is above the block that s allows
pub clip_below : (s x c : ℕ) → s < (x - 1) * c → s / c + 1 < x
clip_below s x c h =
    let q = (div-lt_iff_lt-mul {k = c} {x = s} {y = x - 1} (pos_right (x - 1) c s h)).1 h in
    omega arith

-- one less than such a block allows the same
clip_one : (s x c : ℕ) → s < (x - 1) * c → cond (ltb s ((x - 1 - 1) * c)) (s / c + 1) (x - 1) ≡ s / c + 1
clip_one s x c h = ⊎_elim
    (λ (l : (x - 1 - 1) * c ≤ s).
    let p = pos_right (x - 1) c s h in
    let up = clip_below s x c h in
    let down : x - 1 - 1 < s / c + 1 = ⊎_elim
    (λ (q : s / c + 1 ≤ x - 1 - 1). absurd (let r = (div-lt_iff_lt-mul {k = c} {x = s} {y = x - 1 - 1} p).0 (omega arith) in omega arith))
    (λ q. q)
    (le_or_lt (s / c + 1) (x - 1 - 1)) in
    cond_le s ((x - 1 - 1) * c) (s / c + 1) (x - 1) l ∙ omega arith)
    (λ l. cond_lt s ((x - 1 - 1) * c) (s / c + 1) (x - 1) l)
    (le_or_lt ((x - 1 - 1) * c) s)

-- the clipped list, axis by axis
pub clipped-length : (s : ℕ) (costs : List ℕ) (o n : ℕ) (b : List ℕ) → length (clipped s costs o n b) ≡ length b
unfolding clipped
clipped-length s costs o zero b = refl
clipped-length s costs o (suc n) b = length-set (clipped s costs o n b) (o + n) (clip_at s costs b (o + n)) ∙ clipped-length s costs o n b

clipped-before : (s : ℕ) (costs : List ℕ) (o n : ℕ) (b : List ℕ) (j : ℕ) → j < o → get_or (clipped s costs o n b) j 0 ≡ get_or b j 0
unfolding clipped
clipped-before s costs o zero b j h = refl
clipped-before s costs o (suc n) b j h =
    get_or-set_other (clipped s costs o n b) (o + n) j (clip_at s costs b (o + n)) 0 (omega arith) ∙ clipped-before s costs o n b j h

clipped-after : (s : ℕ) (costs : List ℕ) (o n : ℕ) (b : List ℕ) (j : ℕ) → o + n ≤ j → get_or (clipped s costs o n b) j 0 ≡ get_or b j 0
unfolding clipped
clipped-after s costs o zero b j h = refl
clipped-after s costs o (suc n) b j h =
    get_or-set_other (clipped s costs o n b) (o + n) j (clip_at s costs b (o + n)) 0 (omega arith) ∙ clipped-after s costs o n b j (omega arith)

pub clipped_in : (s : ℕ) (costs : List ℕ) (o n : ℕ) (b : List ℕ) (j : ℕ) → o ≤ j → j < o + n → j < length b
    → get_or (clipped s costs o n b) j 0 ≡ clip_at s costs b j
unfolding clipped
clipped_in s costs o zero b j h l k = absurd (omega arith)
clipped_in s costs o (suc n) b j h l k = ⊎_elim
    (λ (e : j ≡ o + n).
    subst⁻¹ (λ (i : ℕ). get_or (set (clipped s costs o n b) (o + n) (clip_at s costs b (o + n))) i 0 ≡ clip_at s costs b i) e
    (get_or-set_same (clipped s costs o n b) (o + n) (clip_at s costs b (o + n)) 0
    (let q = clipped-length s costs o n b in omega arith)))
    (λ (e : j < o + n).
    get_or-set_other (clipped s costs o n b) (o + n) j (clip_at s costs b (o + n)) 0 (omega arith) ∙ clipped_in s costs o n b j h e k)
    (eq-or-lt_of_le {n = j} {m = o + n} (omega arith))

-- every index is before the tail, behind it, or in it
where_is : (o n j : ℕ) → (j < o) ⊎ ((o + n ≤ j) ⊎ ((o ≤ j) × (j < o + n)))
where_is o n j = ⊎_elim
    (λ (h : o ≤ j). ⊎_elim (λ (k : o + n ≤ j). inr (inl k)) (λ (k : j < o + n). inr (inr (h, k))) (le_or_lt (o + n) j))
    (λ (h : j < o). inl h)
    (le_or_lt o j)

-- two lists clipped to the same: the same values in the tail, the same elsewhere
clipped-same : (s : ℕ) (costs : List ℕ) (o n : ℕ) (b b' : List ℕ) → length b ≡ length b'
    → ((j : ℕ) → o ≤ j → j < o + n → clip_at s costs b j ≡ clip_at s costs b' j)
    → ((j : ℕ) → (j < o) ⊎ (o + n ≤ j) → get_or b j 0 ≡ get_or b' j 0)
    → clipped s costs o n b ≡ clipped s costs o n b'
clipped-same s costs o n b b' len inside outside =
    ext_get_or 0 (clipped s costs o n b) (clipped s costs o n b')
    (clipped-length s costs o n b ∙ len ∙ sym (clipped-length s costs o n b'))
    (λ j hj.
    let l = clipped-length s costs o n b in
    ⊎_elim
    (λ h. clipped-before s costs o n b j h ∙ outside j (inl h) ∙ sym (clipped-before s costs o n b' j h))
    (⊎_elim
    (λ h. clipped-after s costs o n b j h ∙ outside j (inr h) ∙ sym (clipped-after s costs o n b' j h))
    (λ h. clipped_in s costs o n b j h.0 h.1 (omega arith) ∙ inside j h.0 h.1
    ∙ sym (clipped_in s costs o n b' j h.0 h.1 (omega arith))))
    (where_is o n j))

-- nothing to clip
pub clipped_none : (s : ℕ) (costs : List ℕ) (o n : ℕ) (b : List ℕ)
    → ((j : ℕ) → o ≤ j → j < o + n → score b costs j ≤ s) → clipped s costs o n b ≡ b
clipped_none s costs o n b low =
    ext_get_or 0 (clipped s costs o n b) b (clipped-length s costs o n b)
    (λ j hj.
    let l = clipped-length s costs o n b in
    ⊎_elim
    (λ h. clipped-before s costs o n b j h)
    (⊎_elim
    (λ h. clipped-after s costs o n b j h)
    (λ h. clipped_in s costs o n b j h.0 h.1 (omega arith)
    ∙ cond_le s (score b costs j) (s / get_or costs j 0 + 1) (get_or b j 0) (low j h.0 h.1)))
    (where_is o n j))

pub clip_at_le : (s : ℕ) (costs b : List ℕ) (j : ℕ) → clip_at s costs b j ≤ get_or b j 0
clip_at_le s costs b j = ⊎_elim
    (λ (h : score b costs j ≤ s). le_of_eq (cond_le s (score b costs j) (s / get_or costs j 0 + 1) (get_or b j 0) h))
    (λ (h : s < score b costs j).
    let q = clip_below s (get_or b j 0) (get_or costs j 0) h in
    let e = cond_lt s (score b costs j) (s / get_or costs j 0 + 1) (get_or b j 0) h in
    subst⁻¹ (λ (x : ℕ). x ≤ get_or b j 0) e (omega arith))
    (le_or_lt (score b costs j) s)

pub clipped_le : (s : ℕ) (costs : List ℕ) (o n : ℕ) (b : List ℕ) (j : ℕ) → get_or (clipped s costs o n b) j 0 ≤ get_or b j 0
clipped_le s costs o n b j = ⊎_elim
    (λ (out : length b ≤ j).
    le_of_eq (get_or-eq_default (clipped s costs o n b) 0 (let l = clipped-length s costs o n b in omega arith)
    ∙ sym (get_or-eq_default b 0 out)))
    (λ (k : j < length b). ⊎_elim
    (λ h. le_of_eq (clipped-before s costs o n b j h))
    (⊎_elim
    (λ h. le_of_eq (clipped-after s costs o n b j h))
    (λ h. subst⁻¹ (λ (x : ℕ). x ≤ get_or b j 0) (clipped_in s costs o n b j h.0 h.1 k) (clip_at_le s costs b j)))
    (where_is o n j))
    (le_or_lt (length b) j)

-- no score of the tail is above s, or one is
pub some_above : (f : ℕ → ℕ) (s o n : ℕ)
    → ((j : ℕ) → o ≤ j → j < o + n → f j ≤ s) ⊎ ((i : ℕ) × (o ≤ i) × (i < o + n) × (s < f i))
some_above f s o zero = inl (λ j h l. absurd (omega arith))
some_above f s o (suc n) = ⊎_elim
    (λ (low : f (o + n) ≤ s). ⊎_elim
    (λ r. inl (λ j h l. ⊎_elim
    (λ (e : j ≡ o + n). subst⁻¹ (λ (k : ℕ). f k ≤ s) e low)
    (λ (e : j < o + n). r j h e)
    (eq-or-lt_of_le {n = j} {m = o + n} (omega arith))))
    (λ r. inr (r.0, r.1, omega (arith, r.2), r.3))
    (some_above f s o n))
    (λ (high : s < f (o + n)). inr (o + n, omega arith, omega arith, high))
    (le_or_lt (f (o + n)) s)

-- a loss of 1 at an axis whose score is above s leaves the clipped blocks as they are
clipped_loss : (s : ℕ) (costs : List ℕ) (o n : ℕ) (b : List ℕ) (p : ℕ) → o ≤ p → p < o + n → p < length b → s < score b costs p
    → clipped s costs o n (set b p (get_or b p 0 - 1)) ≡ clipped s costs o n b
clipped_loss s costs o n b p hp lp k hs =
    let b' : List ℕ = set b p (get_or b p 0 - 1) in
    let x : ℕ = get_or b p 0 in
    let c : ℕ = get_or costs p 0 in
    clipped-same s costs o n b' b (length-set b p (x - 1))
    (λ j h l. elim (ℕ_discrete j p) [
      | yes e ↦ subst⁻¹ (λ (i : ℕ). clip_at s costs b' i ≡ clip_at s costs b i) e
          (ap (λ (y : ℕ). cond (ltb s ((y - 1) * c)) (s / c + 1) y) (get_or-set_same b p (x - 1) 0 k)
          ∙ clip_one s x c hs ∙ sym (cond_lt s (score b costs p) (s / c + 1) x hs))
      | no e ↦ ap (λ (y : ℕ). cond (ltb s ((y - 1) * get_or costs j 0)) (s / get_or costs j 0 + 1) y) (get_or-set_other b p j (x - 1) 0 e)
    ])
    (λ j out. get_or-set_other b p j (x - 1) 0
    (⊎_elim (λ (h : j < o). λ e. absurd (omega arith)) (λ (h : o + n ≤ j). λ e. absurd (omega arith)) out))

-- one single step on the way: fewer cells, the same end, and the same blocks once clipped
pub record Loss (mc : Machine) (bytes : List ℕ) (operands : ℕ) (costs : List ℕ) (o n s : ℕ) (b : List ℕ) : Type 0 where
  pub next : List ℕ
  pub fewer : cells o n next < cells o n b
  pub ends : lessened mc bytes operands costs o n b ≡ lessened mc bytes operands costs o n next
  pub same : clipped s costs o n next ≡ clipped s costs o n b

pub one_loss : (mc : Machine) (bytes : List ℕ) (operands : ℕ) (costs : List ℕ) (o n s : ℕ) (b : List ℕ) (i : ℕ) → o ≤ i → i < o + n → s < score b costs i
    → mc.cache < region mc bytes operands b o n → Loss mc bytes operands costs o n s b
unfolding lessened
one_loss mc bytes operands costs o n s b i h l hs big =
    let best = pick_best b costs o n i h l (omega arith) in
    let p : ℕ = best.at in
    let pk = pick_is b costs o n p best.is in
    let k = above_there b p pk.above in
    let sp : s < score b costs p = lt_of_lt_of_le hs best.most in
    let goes = lessening-at mc bytes operands costs o n b p big best.is in
    record {
      next = set b p (get_or b p 0 - 1);
      fewer = lessening_falls mc bytes operands costs o n b (set b p (get_or b p 0 - 1)) goes;
      ends = until-step (lessening mc bytes operands costs o n) (cells o n) (lessening_falls mc bytes operands costs o n) b (set b p (get_or b p 0 - 1)) goes;
      same = clipped_loss s costs o n b p pk.from pk.below k sp;
    }

-- blocks that are too large when clipped are too large
unclipped : (mc : Machine) (bytes : List ℕ) (operands : ℕ) (costs : List ℕ) (o n s : ℕ) (b : List ℕ) → mc.cache < region mc bytes operands (clipped s costs o n b) o n → mc.cache < region mc bytes operands b o n
unclipped mc bytes operands costs o n s b big = lt_of_lt_of_le big (region_mono mc bytes operands (clipped s costs o n b) b o n (clipped_le s costs o n b))

-- the jump: where the region of the clipped blocks is still above the cache, the single steps come by them
jump_in : (mc : Machine) (bytes : List ℕ) (operands : ℕ) (costs : List ℕ) (o n s steps : ℕ) (b : List ℕ) → cells o n b ≤ steps
    → mc.cache < region mc bytes operands (clipped s costs o n b) o n
    → lessened mc bytes operands costs o n b ≡ lessened mc bytes operands costs o n (clipped s costs o n b)
jump_in mc bytes operands costs o n s zero b fuel big = ⊎_elim
    (λ low. ap (lessened mc bytes operands costs o n) (sym (clipped_none s costs o n b low)))
    (λ r. absurd (omega (arith, (one_loss mc bytes operands costs o n s b r.0 r.1 r.2 r.3 (unclipped mc bytes operands costs o n s b big)).fewer)))
    (some_above (score b costs) s o n)
jump_in mc bytes operands costs o n s (suc steps) b fuel big = ⊎_elim
    (λ low. ap (lessened mc bytes operands costs o n) (sym (clipped_none s costs o n b low)))
    (λ r.
    let q = one_loss mc bytes operands costs o n s b r.0 r.1 r.2 r.3 (unclipped mc bytes operands costs o n s b big) in
    q.ends
    ∙ jump_in mc bytes operands costs o n s steps q.next (omega (arith, q.fewer))
    (subst⁻¹ (λ (x : List ℕ). mc.cache < region mc bytes operands x o n) q.same big)
    ∙ ap (lessened mc bytes operands costs o n) q.same)
    (some_above (score b costs) s o n)

pub jump : (mc : Machine) (bytes : List ℕ) (operands : ℕ) (costs : List ℕ) (o n s : ℕ) (b : List ℕ)
    → mc.cache < region mc bytes operands (clipped s costs o n b) o n
    → lessened mc bytes operands costs o n b ≡ lessened mc bytes operands costs o n (clipped s costs o n b)
jump mc bytes operands costs o n s b = jump_in mc bytes operands costs o n s (cells o n b) b (le_refl (cells o n b))

pub clipped_scores : (s : ℕ) (costs : List ℕ) (o n m : ℕ) (b : List ℕ) → ScoresFit m costs b → ScoresFit m costs (clipped s costs o n b)
clipped_scores s costs o n m b fit = scores_le m costs b (clipped s costs o n b) (clipped_le s costs o n b) fit

-- as a loop makes it
pub over_start : (s : ℕ) (costs : List ℕ) (o : ℕ) (b out : List ℕ) → clipped_over s costs o (o - o) b out ≡ out
unfolding clipped_over
over_start s costs o b out = none_yet (λ k. clipped_over s costs o k b out) o

pub over-step : (s : ℕ) (costs : List ℕ) (o i : ℕ) (b out : List ℕ) → o ≤ i
    → clipped_over s costs o (i + 1 - o) b out ≡ set (clipped_over s costs o (i - o) b out) i (clip_at s costs b i)
unfolding clipped_over
over-step s costs o i b out h =
    one_more_lem (λ k. clipped_over s costs o k b out) o i h
    ∙ ap (λ (k : ℕ). set (clipped_over s costs o (i - o) b out) k (clip_at s costs b k)) (at_end o i h)

pub over_itself : (s : ℕ) (costs : List ℕ) (o n : ℕ) (b : List ℕ) → clipped_over s costs o n b b ≡ clipped s costs o n b
unfolding clipped_over clipped
over_itself s costs o zero b = refl
over_itself s costs o (suc n) b = ap (λ (l : List ℕ). set l (o + n) (clip_at s costs b (o + n))) (over_itself s costs o n b)
