-- Laws of offsets: a move along one axis changes the sum of counters times strides by the distance times the stride, so each operand's start stays, and no offset leaves what the plan reaches. Assumes nothing.
use mathlib.Core.Path.{◌≡◌, refl, sym, ap, ◌∙◌, subst}
use mathlib.Core.List.{List}
use Prim.Native.Nat.{ℕ, zero, suc, ◌+◌, ◌-◌, ◌*◌, ◌≤◌, ◌<◌}
use native.Mathlib.Nat.{add-zero, add-suc, lt_of_le_of_lt, lt_of_lt_of_le, mul-le-mul_right, le_refl}
use native.Mathlib.Omega.{arith}
use lib.IntN.{ℤ, pos, neg_ℤ, nat_abs, sub_ℕ, ◌+ℤ◌, ◌-ℤ◌, ◌*ℤ◌, zero-*ℤ, suc_ℤ-*ℤ, +ℤ_idr, +ℤ_assoc, +ℤ_comm, neg_ℤ-+ℤ, +ℤ-neg_ℤ_cancel, -ℤ-+ℤ_cancel}
use lib.ListN.{length, get_or, set, length-set}
use lib.Seq.{get_or-set_same, get_or-set_other}
use mir.Syntax.{w64}
use mir.Val.{SFits}
use Rattle.strided.specs.declared.Plan.{Plan}
use Rattle.advance.specs.declared.State.{State}
use Rattle.advance.specs.Moves.{after_move, Shifts, shifted, shifted_to, moved_at}
use Rattle.advance.specs.Carry.{dot_to, start_at, Below, Roomy, state_of}
use Rattle.advance.specs.Filled.{by_lt, filled_length, filled_at, filled_same}
use Rattle.advance.proofs.Signed.{ahead, behind, neg-mul}

-- ---- sums

swap : (a b c : ℤ) → (a +ℤ b) +ℤ c ≡ (a +ℤ c) +ℤ b
swap a b c = +ℤ_assoc a b c ∙ ap (λ (z : ℤ). a +ℤ z) (+ℤ_comm b c) ∙ sym (+ℤ_assoc a c b)

cancel_both : (o d t : ℤ) → (o +ℤ t) -ℤ (d +ℤ t) ≡ o -ℤ d
cancel_both o d t =
    ap (λ (z : ℤ). (o +ℤ t) +ℤ z) (neg_ℤ-+ℤ d t ∙ +ℤ_comm (neg_ℤ d) (neg_ℤ t)) ∙ sym (+ℤ_assoc (o +ℤ t) (neg_ℤ t) (neg_ℤ d)) ∙ ap (λ (z : ℤ). z -ℤ d) (+ℤ-neg_ℤ_cancel o t)

back_on : (o d t : ℤ) → (o -ℤ d) +ℤ (d +ℤ t) ≡ o +ℤ t
back_on o d t = sym (+ℤ_assoc (o -ℤ d) d t) ∙ ap (λ (z : ℤ). z +ℤ t) (-ℤ-+ℤ_cancel o d)

-- ---- products

add-mul : (a d : ℕ) (s : ℤ) → pos (a + d) *ℤ s ≡ pos a *ℤ s +ℤ pos d *ℤ s
add-mul a zero s = ap (λ (n : ℕ). pos n *ℤ s) (add-zero a) ∙ sym (ap (λ (z : ℤ). pos a *ℤ s +ℤ z) (zero-*ℤ s) ∙ +ℤ_idr (pos a *ℤ s))
add-mul a (suc d) s =
    ap (λ (n : ℕ). pos n *ℤ s) (add-suc a d) ∙ suc_ℤ-*ℤ (pos (a + d)) s ∙ ap (λ (z : ℤ). z +ℤ s) (add-mul a d s) ∙ +ℤ_assoc (pos a *ℤ s) (pos d *ℤ s) s
    ∙ ap (λ (z : ℤ). pos a *ℤ s +ℤ z) (sym (suc_ℤ-*ℤ (pos d) s))

moved-mul : (c v : ℕ) (s : ℤ) → pos v *ℤ s ≡ pos c *ℤ s +ℤ sub_ℕ v c *ℤ s
moved-mul c v s =
    by_lt v c
    (λ lt. sym (ap (λ (z : ℤ). pos c *ℤ s +ℤ z) (ap (λ (z : ℤ). z *ℤ s) (behind c v lt) ∙ neg-mul (c - v) s)
    ∙ ap (λ (z : ℤ). z -ℤ pos (c - v) *ℤ s) (ap (λ (n : ℕ). pos n *ℤ s) (let e : c ≡ v + (c - v) = omega arith in e) ∙ add-mul v (c - v) s)
    ∙ +ℤ-neg_ℤ_cancel (pos v *ℤ s) (pos (c - v) *ℤ s)))
    (λ le. ap (λ (n : ℕ). pos n *ℤ s) (let e : v ≡ c + (v - c) = omega arith in e) ∙ add-mul c (v - c) s ∙ ap (λ (z : ℤ). pos c *ℤ s +ℤ z *ℤ s) (sym (ahead c v le)))

-- ---- the sum of counters times strides

module _ (k i v : ℕ) (c : List ℕ) (s : List ℤ) where
  abbrev S : ℤ
  S = sub_ℕ v (get_or c i 0) *ℤ get_or s (k * 64 + i) (pos 0)

  dot_other : (n : ℕ) → n ≤ i → dot_to n k (set c i v) s ≡ dot_to n k c s
  unfolding dot_to
  dot_other zero h = refl
  dot_other (suc n) h = λ j. dot_other n (let g : n ≤ i = omega arith in g) j +ℤ pos (get_or-set_other c i n v 0 (let g : (n ≡ i → ⊥) = omega arith in g) j) *ℤ get_or s (k * 64 + n) (pos 0)

  dot-set : (n : ℕ) → i < n → i < length c → dot_to n k (set c i v) s ≡ dot_to n k c s +ℤ S
  unfolding dot_to
  dot-set zero h l = absurd (let z : ⊥ = omega arith in z)
  dot-set (suc n) h l =
      by_lt i n
      (λ lt. (λ j. dot-set n lt l j +ℤ pos (get_or-set_other c i n v 0 (let g : (n ≡ i → ⊥) = omega arith in g) j) *ℤ get_or s (k * 64 + n) (pos 0))
      ∙ swap (dot_to n k c s) S (pos (get_or c n 0) *ℤ get_or s (k * 64 + n) (pos 0)))
      (λ le. at_end n (let g : n ≡ i = omega arith in g))
    where
      at_end : (n : ℕ) → n ≡ i → dot_to n k (set c i v) s +ℤ pos (get_or (set c i v) n 0) *ℤ get_or s (k * 64 + n) (pos 0) ≡ (dot_to n k c s +ℤ pos (get_or c n 0) *ℤ get_or s (k * 64 + n) (pos 0)) +ℤ S
      at_end n e =
          subst (λ (m : ℕ). dot_to m k (set c i v) s +ℤ pos (get_or (set c i v) m 0) *ℤ get_or s (k * 64 + m) (pos 0) ≡ (dot_to m k c s +ℤ pos (get_or c m 0) *ℤ get_or s (k * 64 + m) (pos 0)) +ℤ S) (sym e)
          ((λ j. dot_other i (le_refl i) j +ℤ pos (get_or-set_same c i v 0 l j) *ℤ get_or s (k * 64 + i) (pos 0))
          ∙ ap (λ (z : ℤ). dot_to i k c s +ℤ z) (moved-mul (get_or c i 0) v (get_or s (k * 64 + i) (pos 0)))
          ∙ sym (+ℤ_assoc (dot_to i k c s) (pos (get_or c i 0) *ℤ get_or s (k * 64 + i) (pos 0)) S))

-- ---- a move within the extents

module _ (p : Plan) (at : State) (r : Roomy p at) (i v : ℕ) (axis : i < p.rank) (below : v < get_or p.extents i 0) where
  inside : i < length at.counters
  inside = subst (λ (n : ℕ). i < n) (sym r.counted) (omega (arith, r.axes))

  moved-within : Below p (set at.counters i v)
  moved-within j h =
      by_lt j i
      (λ lt. other (omega arith))
      (λ le. by_lt i j (λ lt. other (omega arith))
      (λ ge. subst (λ (n : ℕ). get_or (set at.counters i v) n 0 < get_or p.extents n 0) (let g : i ≡ j = omega arith in g) (subst (λ (n : ℕ). n < get_or p.extents i 0) (sym (get_or-set_same at.counters i v 0 inside)) below)))
    where
      other : (j ≡ i → ⊥) → get_or (set at.counters i v) j 0 < get_or p.extents j 0
      other ne = subst (λ (n : ℕ). n < get_or p.extents j 0) (sym (get_or-set_other at.counters i j v 0 ne)) (r.within j h)

  -- where each offset goes is what the plan reaches at the new counters
  goes_to : (k : ℕ) → start_at p k at.counters at.offsets +ℤ dot_to p.rank k (set at.counters i v) p.strides ≡ after_move (get_or at.offsets k (pos 0)) (get_or p.strides (k * 64 + i) (pos 0)) (get_or at.counters i 0) v
  unfolding start_at after_move
  goes_to k = ap (λ (z : ℤ). (get_or at.offsets k (pos 0) -ℤ dot_to p.rank k at.counters p.strides) +ℤ z) (dot-set k i v at.counters p.strides p.rank axis inside) ∙ back_on (get_or at.offsets k (pos 0)) (dot_to p.rank k at.counters p.strides) (S k i v at.counters p.strides)

  pub roomy_shifts : Shifts p i (get_or at.counters i 0) v at.offsets
  roomy_shifts = record {
    inside = lt_of_lt_of_le axis r.axes;
    offered = r.offered;
    each = λ k h. record {
      span = lt_of_le_of_lt (mul-le-mul_right (nat_abs (get_or p.strides (k * 64 + i) (pos 0))) (let g : (v - get_or at.counters i 0) + (get_or at.counters i 0 - v) ≤ get_or p.extents i 0 - 1 = omega (arith, r.within i axis) in g)) (r.span k i h axis);
      lands = subst (SFits w64) (goes_to k) (r.reach k h (set at.counters i v) moved-within);
    };
  }

  abbrev o' : List ℤ
  o' = shifted p i (get_or at.counters i 0) v at.offsets

  pub start_stays : (k : ℕ) → k < p.operands → start_at p k (set at.counters i v) o' ≡ start_at p k at.counters at.offsets
  unfolding start_at after_move
  start_stays k h =
      (λ j. filled_at at.offsets (moved_at i (get_or at.counters i 0) v p.strides at.offsets) (pos 0) p.operands k h (subst (λ (n : ℕ). p.operands ≤ n) (sym r.offered) r.few) j -ℤ dot-set k i v at.counters p.strides p.rank axis inside j)
      ∙ cancel_both (get_or at.offsets k (pos 0)) (dot_to p.rank k at.counters p.strides) (S k i v at.counters p.strides)

  pub roomy_moved : (t : List ℕ) → Roomy p (state_of t (set at.counters i v) o')
  roomy_moved t = record {
    axes = r.axes;
    few = r.few;
    counted = length-set at.counters i v ∙ r.counted;
    offered = filled_length at.offsets (moved_at i (get_or at.counters i 0) v p.strides at.offsets) p.operands ∙ r.offered;
    within = moved-within;
    span = r.span;
    reach = λ k h x w. subst (λ (z : ℤ). SFits w64 (z +ℤ dot_to p.rank k x p.strides)) (sym (start_stays k h)) (r.reach k h x w);
  }

-- the offsets are what the plan reaches at the counters
pub roomy_offset : {p : Plan} {at : State} → Roomy p at → (k : ℕ) → k < p.operands → SFits w64 (get_or at.offsets k (pos 0))
unfolding start_at
roomy_offset {p} {at} r k h =
    subst (SFits w64) (-ℤ-+ℤ_cancel (get_or at.offsets k (pos 0)) (dot_to p.rank k at.counters p.strides)) (r.reach k h at.counters r.within)

-- a move to where the axis stands
pub unmoved : (n axis at : ℕ) (s o : List ℤ) → o ≡ shifted_to n axis at at s o
unfolding after_move
unmoved n axis at s o =
    sym (filled_same o (moved_at axis at at s o) (pos 0) n
    (λ k h. let z : sub_ℕ at at ≡ pos 0 = ahead at at (le_refl at) ∙ ap pos (let g : at - at ≡ 0 = omega arith in g) in
    ap (λ (d : ℤ). get_or o k (pos 0) +ℤ d *ℤ get_or s (k * 64 + axis) (pos 0)) z
    ∙ ap (λ (d : ℤ). get_or o k (pos 0) +ℤ d) (zero-*ℤ (get_or s (k * 64 + axis) (pos 0))) ∙ +ℤ_idr (get_or o k (pos 0))))

pub unmoved_at : (n axis from to : ℕ) (s o : List ℤ) → from ≡ to → o ≡ shifted_to n axis from to s o
unmoved_at n axis from to s o e = subst (λ (t : ℕ). o ≡ shifted_to n axis from t s o) e (unmoved n axis from s o)

pub unmoved_plan : (p : Plan) (axis from to : ℕ) (o : List ℤ) → from ≡ to → o ≡ shifted p axis from to o
unmoved_plan p axis from to o e = unmoved_at p.operands axis from to p.strides o e
