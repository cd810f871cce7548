-- One axis of a window: it lies in its extent exactly if each of its indices does, which is that the steps fit the room between the first
-- index and the end that they go to. Assumes nothing.
use Rattle.std.specs.Prelude.{◌≡◌, refl, ◌↔◌, Bool, true, false, cond, ◌&&◌, not, ℕ, zero, suc, ◌+◌, ◌-◌, ◌*◌, ◌/◌, ◌≤◌, ◌<◌, ltb, leb, eqb, ℤ, pos, negsuc, neg_ℤ, nat_abs, ◌+ℤ◌, ◌-ℤ◌, ◌*ℤ◌}
use Rattle.std.proofs.Common.{sym, ap, ◌∙◌, subst, mul-le-mul_right, mul-le-mul_left, mul-one, zero-mul, mul-div_cancel, mul_assoc, le_trans, arith, ltb-true, ltb-false, leb-true, leb-false, lt-ltb, le-ltb, le-leb}
use Rattle.std.proofs.lemmas.Bool.{false≢true, not-false, eqb-false}
use Rattle.std.proofs.Math.IntN.{+ℤ_idr, zero-*ℤ}
use Rattle.laws.specs.Base.Tests.{and_both, both_and, or_none}
use Rattle.laws.specs.Base.Integers.{add-*ℤ, *ℤ-assoc, nat_abs_mul, nat_abs_product, +ℤ-less}
use Rattle.window.specs.Window.{along, on_axis, outside, axis_wrong, stepped_stride}

-- ---- the room that the steps have

-- "going up at most extent − 1 − first, going down at most first"
abbrev pub room_along : ℕ → ℕ → ℤ → ℕ
room_along e f (pos a) = e - 1 - f
room_along e f (negsuc a) = f

minus : (f p : ℕ) → p ≤ f → pos f +ℤ neg_ℤ (pos p) ≡ pos (f - p)
minus f zero h = let q : f + 0 ≡ f - 0 = omega arith in ap pos q
minus f (suc p) h = rw (le-ltb f (suc p) h)

minus_below : (f p : ℕ) → f < p → pos f +ℤ neg_ℤ (pos p) ≡ negsuc (p - suc f)
minus_below f zero h = absurd (bad h)
  where
    bad : f < 0 → ⊥
    bad h = omega arith
minus_below f (suc p) h = rw (lt-ltb f (suc p) h)

pub axis_room : (e f n : ℕ) (s : ℤ) → f < e → on_axis e (along f s n) ≡ leb (n * nat_abs s) (room_along e f s)
axis_room e f n (pos a) h = go (leb (n * a) (e - 1 - f)) refl
  where
    go : (b : Bool) → leb (n * a) (e - 1 - f) ≡ b → ltb (f + n * a) e ≡ b
    go true q = lt-ltb (f + n * a) e (omega (arith, leb-true (n * a) (e - 1 - f) q))
    go false q = le-ltb (f + n * a) e (omega (arith, leb-false (n * a) (e - 1 - f) q))
axis_room e f n (negsuc a) h = go (leb (n * suc a) f) refl
  where
    go : (b : Bool) → leb (n * suc a) f ≡ b → on_axis e (pos f +ℤ neg_ℤ (pos (n * suc a))) ≡ b
    go true q =
        let l : n * suc a ≤ f = leb-true (n * suc a) f q in
        ap (on_axis e) (minus f (n * suc a) l) ∙ lt-ltb (f - n * suc a) e (omega arith)
    go false q = ap (on_axis e) (minus_below f (n * suc a) (leb-false (n * suc a) f q))

room_le : (e f : ℕ) (s : ℤ) → f < e → room_along e f s ≤ e - 1
room_le e f (pos a) h = omega arith
room_le e f (negsuc a) h = omega arith

-- ---- an axis that the window lies in

pub record AxisLies (e f n : ℕ) (s : ℤ) : Type 0 where
  pub steps : 0 < nat_abs s
  pub inside : outside e f n s ≡ false

-- row 15's test of an axis
pub right_axis : (e f n : ℕ) (s : ℤ) → axis_wrong e f n s ≡ false → AxisLies e f n s
right_axis e f n s h =
    let p = or_none (eqb (nat_abs s) 0) (outside e f n s) h in
    let q : nat_abs s ≡ 0 → ⊥ = eqb-false (nat_abs s) 0 p.0 in
    record { steps = omega arith; inside = p.1 }

-- with a count of 1 or more: the first index lies in the axis, and the steps have room
pub record AxisSpans (e f n : ℕ) (s : ℤ) : Type 0 where
  pub first : f < e
  pub room : (n - 1) * nat_abs s ≤ room_along e f s

pub spans : (e f n : ℕ) (s : ℤ) → outside e f n s ≡ false → 0 < n → AxisSpans e f n s
spans e f zero s h p = absurd (bad p)
  where
    bad : 0 < 0 → ⊥
    bad h = omega arith
spans e f (suc n) s h p =
    let b = and_both (ltb f e) (on_axis e (along f s n)) (not-false (ltb f e && on_axis e (along f s n)) h) in
    let l : f < e = ltb-true f e b.0 in
    let q : n * nat_abs s ≤ room_along e f s = leb-true (n * nat_abs s) (room_along e f s) (sym (axis_room e f n s l) ∙ b.1) in
    let m : n ≡ suc n - 1 = omega arith in
    record { first = l; room = subst (λ (k : ℕ). k * nat_abs s ≤ room_along e f s) m q }

pub index_on : (e f n i : ℕ) (s : ℤ) → AxisSpans e f n s → i < n → on_axis e (along f s i) ≡ true
index_on e f n i s a h =
    let g : i * nat_abs s ≤ (n - 1) * nat_abs s = mul-le-mul_right (nat_abs s) (let k : i ≤ n - 1 = omega arith in k) in
    axis_room e f i s a.first ∙ le-leb (i * nat_abs s) (room_along e f s) (le_trans g a.room)

-- ROW 15 ON AN AXIS, EXACT: of a count of 1 or more the test passes exactly if every index first + step × i lies in the axis
pub outside_exact : (e f n : ℕ) (s : ℤ) → 0 < n → (outside e f n s ≡ false) ↔ ((i : ℕ) → i < n → on_axis e (along f s i) ≡ true)
outside_exact e f zero s p = absurd (bad p)
  where
    bad : 0 < 0 → ⊥
    bad h = omega arith
outside_exact e f (suc n) s p = (λ h i l. index_on e f (suc n) i s (spans e f (suc n) s h p) l, from)
  where
    from : ((i : ℕ) → i < suc n → on_axis e (along f s i) ≡ true) → outside e f (suc n) s ≡ false
    from g =
        let z : along f s 0 ≡ pos f = ap (λ (z : ℤ). pos f +ℤ z) (zero-*ℤ s) ∙ +ℤ_idr (pos f) in
        ap not (both_and (ltb f e) (on_axis e (along f s n)) (sym (ap (on_axis e) z) ∙ g 0 (omega arith)) (g n (omega arith)))

-- ---- what holds of an axis that the window lies in

on_pos : (e : ℕ) (z : ℤ) → on_axis e z ≡ true → (pos (nat_abs z) ≡ z) × (nat_abs z < e)
on_pos e (pos j) h = (refl, ltb-true j e h)
on_pos e (negsuc j) h = absurd (false≢true h)

module _ (e f n : ℕ) (s : ℤ) (a : AxisLies e f n s) where
  -- the parent index, as a number
  pub index_there : (i : ℕ) → i < n → (pos (nat_abs (along f s i)) ≡ along f s i) × (nat_abs (along f s i) < e)
  index_there i h = on_pos e (along f s i) (index_on e f n i s (spans e f n s a.inside (omega arith)) h)

  -- the parent index lies in the axis
  pub axis_within : (i : ℕ) → i < n → nat_abs (along f s i) < e
  axis_within i h = (index_there i h).1

  -- no two indices have the same
  pub axis_once : (i j : ℕ) → i < n → j < n → nat_abs (along f s i) ≡ nat_abs (along f s j) → i ≡ j
  axis_once i j h g q =
      let z : along f s i ≡ along f s j = sym (index_there i h).0 ∙ ap pos q ∙ (index_there j g).0 in
      let p : pos i *ℤ s ≡ pos j *ℤ s = sym (+ℤ-less (pos f) (pos i *ℤ s)) ∙ ap (λ (y : ℤ). y -ℤ pos f) z ∙ +ℤ-less (pos f) (pos j *ℤ s) in
      let m : i * nat_abs s ≡ j * nat_abs s = sym (nat_abs_mul i s) ∙ ap nat_abs p ∙ nat_abs_mul j s in
      sym (mul-div_cancel i a.steps) ∙ ap (λ (k : ℕ). k / nat_abs s) m ∙ mul-div_cancel j a.steps

  -- first times stride and index times new stride are parent index times stride
  pub axis_offset : (t : ℤ) (i : ℕ) → i < n → pos f *ℤ t +ℤ pos i *ℤ stepped_stride n s t ≡ pos (nat_abs (along f s i)) *ℤ t
  axis_offset t i h = go (ltb n 2) refl
    where
      go : (b : Bool) → ltb n 2 ≡ b → pos f *ℤ t +ℤ pos i *ℤ cond b t (s *ℤ t) ≡ pos (nat_abs (along f s i)) *ℤ t
      go true q =
          let z : i ≡ 0 = omega (arith, ltb-true n 2 q) in
          let l : along f s i ≡ pos f = ap (along f s) z ∙ ap (λ (y : ℤ). pos f +ℤ y) (zero-*ℤ s) ∙ +ℤ_idr (pos f) in
          ap (λ (k : ℕ). pos f *ℤ t +ℤ pos k *ℤ t) z ∙ ap (λ (y : ℤ). pos f *ℤ t +ℤ y) (zero-*ℤ t) ∙ +ℤ_idr (pos f *ℤ t)
          ∙ ap (λ (y : ℤ). y *ℤ t) (sym ((index_there i h).0 ∙ l))
      go false q =
          ap (λ (y : ℤ). pos f *ℤ t +ℤ y) (sym (*ℤ-assoc (pos i) s t)) ∙ sym (add-*ℤ (pos f) (pos i *ℤ s) t)
          ∙ ap (λ (y : ℤ). y *ℤ t) (sym (index_there i h).0)

  -- no more indices than the axis
  pub axis_count : n ≤ e
  axis_count = go n refl
    where
      go : (m : ℕ) → n ≡ m → n ≤ e
      go zero q = omega arith
      go (suc m) q =
          let p = spans e f n s a.inside (omega arith) in
          let l = room_le e f s p.first in
          let g : (n - 1) * 1 ≤ (n - 1) * nat_abs s = mul-le-mul_left (n - 1) a.steps in
          omega (arith, p.first, p.room, l, g, mul-one (n - 1))

  -- and no more reach
  pub axis_reach : (t : ℤ) → (n - 1) * nat_abs (stepped_stride n s t) ≤ (e - 1) * nat_abs t
  axis_reach t = go (ltb n 2) refl
    where
      go : (b : Bool) → ltb n 2 ≡ b → (n - 1) * nat_abs (cond b t (s *ℤ t)) ≤ (e - 1) * nat_abs t
      go true q =
          let z : n - 1 ≡ 0 = omega (arith, ltb-true n 2 q) in
          let y : (n - 1) * nat_abs t ≡ 0 = ap (λ (k : ℕ). k * nat_abs t) z ∙ zero-mul (nat_abs t) in
          omega arith
      go false q =
          let p = spans e f n s a.inside (omega (arith, ltb-false n 2 q)) in
          let l : (n - 1) * nat_abs s ≤ e - 1 = le_trans p.room (room_le e f s p.first) in
          let m : (n - 1) * nat_abs (s *ℤ t) ≡ (n - 1) * nat_abs s * nat_abs t = ap (λ (k : ℕ). (n - 1) * k) (nat_abs_product s t) ∙ sym (mul_assoc (n - 1) (nat_abs s) (nat_abs t)) in
          subst (λ (k : ℕ). k ≤ (e - 1) * nat_abs t) (sym m) (mul-le-mul_right (nat_abs t) l)

  -- a new stride is no longer than the reach on the axis
  pub axis_stride : (t : ℤ) → 2 ≤ n → nat_abs (stepped_stride n s t) ≤ (e - 1) * nat_abs t
  axis_stride t h =
      let a : 1 * nat_abs (stepped_stride n s t) ≤ (n - 1) * nat_abs (stepped_stride n s t) = mul-le-mul_right (nat_abs (stepped_stride n s t)) (let g : 1 ≤ n - 1 = omega arith in g) in
      let b = axis_reach t in
      omega (arith, a, b)

  -- first times stride is within the reach, where the count is not 0
  pub axis_first : (t : ℤ) → 0 < n → f * nat_abs t ≤ (e - 1) * nat_abs t
  axis_first t h = let p = spans e f n s a.inside h in mul-le-mul_right (nat_abs t) (let g : f ≤ e - 1 = omega (arith, p.first) in g)
