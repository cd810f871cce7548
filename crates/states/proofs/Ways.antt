-- Laws of row 9's loops: how far the offsets lie below the one at the counters, axis by axis, and what that says of a start.
-- Assumes nothing.
use mathlib.Core.Path.{◌≡◌, sym, ap, ◌∙◌, subst}
use mathlib.Core.Bool.{Bool, true, false, ◌&&◌, not}
use mathlib.Core.List.{List}
use Prim.Native.Nat.{ℕ, ◌+◌, ◌-◌, ◌*◌, ◌^◌, ◌≤◌, ◌<◌}
use native.Mathlib.Numerals.{add-one}
use native.Mathlib.Omega.{arith}
use lib.IntN.{ℤ, pos, nat_abs, ◌+ℤ◌, ◌-ℤ◌}
use lib.ListN.{length, get_or, take, drop, length-take, length-drop, drop_of_length-le}
use lib.Seq.{drop-cons}
use Rattle.strided.specs.Layout.{in_i64, dot, reach}
use Rattle.laws.specs.Base.Layouts.{within-at, within-length}
use Rattle.laws.specs.Refusals.Reaches.{term_reach}
use Rattle.laws.specs.Walk.Row9.{below_term, below_of, below-reach, leaves_at_lem}
use Rattle.strided.specs.Refusals.{leaves}
use Rattle.strided.specs.Begin.{plan_extents, plan_row}
use Rattle.strided.specs.declared.Plan.{Plan}
use Rattle.layout.specs.Rows.{row_at}
use Rattle.states.specs.Starts.{leaves_at, Placed, Standing}
use Rattle.states.specs.Arrays as arrays

-- ---- the sum over the axes

-- what is summed up, and what is left from axis i on
abbrev pub Left : List ℕ → List ℤ → List ℕ → ℕ → ℕ → Type 0
Left es ts c sum i = sum + below_of (drop i es) (drop i ts) (drop i c) ≡ below_of es ts c

-- and of the reach
abbrev pub Further : List ℕ → List ℤ → ℕ → ℕ → Type 0
Further es ts sum i = sum + reach (drop i es) (drop i ts) ≡ reach es ts

module _ (es : List ℕ) (ts : List ℤ) (c : List ℕ) (p : Placed es ts c) where
  counted : length c ≡ length es
  counted = within-length es c p.within

  -- an axis's way is within the reach
  pub way : (i : ℕ) → i < length es → (get_or es i 0 - 1) * nat_abs (get_or ts i (pos 0)) < 2 ^ 63
  way i h = omega (arith, term_reach es ts i h (subst (λ (n : ℕ). i < n) (sym p.long) h), p.near)

  pub inside : (i : ℕ) → i < length es → get_or c i 0 < get_or es i 0
  inside i h = within-at es c i p.within h

  pub counter_there : (i : ℕ) → i < length es → i < length c
  counter_there i h = subst (λ (n : ℕ). i < n) (sym counted) h

  pub under_fits : below_of es ts c < 2 ^ 63
  under_fits = omega (arith, below-reach es ts c p.within, p.near)

  left_cons : (i : ℕ) → i < length es
      → below_of (drop i es) (drop i ts) (drop i c) ≡ below_term (get_or es i 0) (get_or c i 0) (get_or ts i (pos 0)) + below_of (drop (i + 1) es) (drop (i + 1) ts) (drop (i + 1) c)
  unfolding below_of
  left_cons i h =
      rw (
        add-one i,
        drop-cons es i 0 h,
        drop-cons ts i (pos 0) (subst (λ (n : ℕ). i < n) (sym p.long) h),
        drop-cons c i 0 (counter_there i h),
      )

  module _ (sum i t : ℕ) (h : i < length es) (l : Left es ts c sum i) (is : t ≡ below_term (get_or es i 0) (get_or c i 0) (get_or ts i (pos 0))) where
    pub left_turn : Left es ts c (sum + t) (i + 1)
    left_turn = let q = left_cons i h in omega (arith, q, is, l)

    pub left_fits : sum + t < 2 ^ 64
    left_fits = let q = left_cons i h in omega (arith, q, is, l, under_fits)

  further_cons : (i : ℕ) → i < length es → reach (drop i es) (drop i ts) ≡ (get_or es i 0 - 1) * nat_abs (get_or ts i (pos 0)) + reach (drop (i + 1) es) (drop (i + 1) ts)
  further_cons i h = rw (add-one i, drop-cons es i 0 h, drop-cons ts i (pos 0) (subst (λ (n : ℕ). i < n) (sym p.long) h))

  module _ (sum i t : ℕ) (h : i < length es) (l : Further es ts sum i) (is : t ≡ (get_or es i 0 - 1) * nat_abs (get_or ts i (pos 0))) where
    pub further_turn : Further es ts (sum + t) (i + 1)
    further_turn = let q = further_cons i h in omega (arith, q, is, l)

    pub further_fits : sum + t < 2 ^ 64
    further_fits = let q = further_cons i h in omega (arith, q, is, l, p.near)

  pub further_end : (sum i : ℕ) → length es ≤ i → Further es ts sum i → sum ≡ reach es ts
  further_end sum i h l =
      let z : reach (drop i es) (drop i ts) ≡ 0 = rw (drop_of_length-le es h) in
      omega (arith, z, l)

  pub left_end : (sum i : ℕ) → length es ≤ i → Left es ts c sum i → sum ≡ below_of es ts c
  unfolding below_of
  left_end sum i h l =
      let z : below_of (drop i es) (drop i ts) (drop i c) ≡ 0 = rw (drop_of_length-le es h) in
      omega (arith, z, l)

-- ---- one operand, from its offset o at the counters

module _ (es : List ℕ) (ts : List ℤ) (c : List ℕ) (p : Placed es ts c) (u : ℕ) (u_is : u ≡ below_of es ts c) (r : ℕ) (reach_is : r ≡ reach es ts) where
  low_of : u ≤ r
  low_of = omega (arith, u_is, reach_is, below-reach es ts c p.within)

  module _ (o z : ℤ) (o_is : o ≡ z) where
    test : leaves es ts (z -ℤ dot c ts) ≡ not (in_i64 (o -ℤ pos u) && in_i64 (o +ℤ pos (r - u)))
    test =
        leaves_at_lem es ts (z -ℤ dot c ts) p.long c p.within o (ap (λ (z : ℤ). z -ℤ dot c ts) (sym o_is))
        ∙ (λ i. not (in_i64 (o -ℤ pos (sym u_is i)) && in_i64 (o +ℤ pos (sym reach_is i - sym u_is i))))

    low_leaves : {b : Bool} → b ≡ in_i64 (o -ℤ pos u) → b ≡ false → true ≡ leaves es ts (z -ℤ dot c ts)
    low_leaves e g = sym (test ∙ rw (sym e ∙ g))

    high_leaves : {b : Bool} → b ≡ in_i64 (o -ℤ pos u) → b ≡ true → {d : Bool} → d ≡ in_i64 (o +ℤ pos (r - u)) → not d ≡ leaves es ts (z -ℤ dot c ts)
    high_leaves e g f = ap not f ∙ sym (test ∙ rw (sym e ∙ g))

-- ---- one operand of a plan, whose strides are as many as the extents

module _ (p : Plan) (c : List ℕ) (os : List ℤ) (k : ℕ) (h : Standing p c os) (there : k < p.operands) (l : length (plan_row p k) ≡ length (plan_extents p)) where
  abbrev es : List ℕ
  es = plan_extents p

  abbrev ts : List ℤ
  ts = plan_row p k

  pub placed : Placed es ts c
  placed = record { long = l; within = h.within; near = h.near k there }

  module _ (u : ℕ) (u_is : u ≡ below_of es ts c) where
    module _ (r : ℕ) (reach_is : r ≡ reach es ts) where
      pub low_le : u ≤ r
      low_le = low_of es ts c placed u u_is r reach_is

      module _ (o : ℤ) (o_is : o ≡ get_or os k (pos 0)) where
        pub too_low : {b : Bool} → b ≡ in_i64 (o -ℤ pos u) → b ≡ false → true ≡ leaves_at p c os k
        unfolding leaves_at
        too_low e g = low_leaves es ts c placed u u_is r reach_is o _ o_is e g

        pub high_test : {b : Bool} → b ≡ in_i64 (o -ℤ pos u) → b ≡ true → {d : Bool} → d ≡ in_i64 (o +ℤ pos (r - u)) → not d ≡ leaves_at p c os k
        unfolding leaves_at
        high_test e g f = high_leaves es ts c placed u u_is r reach_is o _ o_is e g f

-- ---- one operand of slices, whose strides stand as the code cuts them out

module _ (es : List ℕ) (ss : List ℤ) (c : List ℕ) (os : List ℤ) (k : ℕ) (h : arrays.StandsAt es ss c os k) where
  abbrev part : List ℤ
  part = take (k * 64 + length es - k * 64) (drop (k * 64) ss)

  part_is : row_at es ss 64 k ≡ part
  part_is = ap (λ (n : ℕ). take n (drop (k * 64) ss)) (let g : length es ≡ k * 64 + length es - k * 64 = omega arith in g)

  pub placed_part : Placed es part c
  placed_part =
      let a = length-take (length es) (drop (k * 64) ss) in
      let b = length-drop (k * 64) ss in
      subst (λ (l : List ℤ). Placed es l c) part_is (record { long = omega (arith, a, b, h.laid); within = h.within; near = h.near })

  leaves_part : leaves es part (get_or os k (pos 0) -ℤ dot c part) ≡ arrays.leaves_at es ss c os k
  unfolding arrays.leaves_at
  leaves_part = ap (λ (l : List ℤ). leaves es l (get_or os k (pos 0) -ℤ dot c l)) (sym part_is)

  module _ (u : ℕ) (u_is : u ≡ below_of es part c) where
    module _ (r : ℕ) (reach_is : r ≡ reach es part) where
      pub low_le_part : u ≤ r
      low_le_part = low_of es part c placed_part u u_is r reach_is

      module _ (o : ℤ) (o_is : o ≡ get_or os k (pos 0)) where
        pub too_low_part : {b : Bool} → b ≡ in_i64 (o -ℤ pos u) → b ≡ false → true ≡ arrays.leaves_at es ss c os k
        too_low_part e g = low_leaves es part c placed_part u u_is r reach_is o _ o_is e g ∙ leaves_part

        pub high_test_part : {b : Bool} → b ≡ in_i64 (o -ℤ pos u) → b ≡ true → {d : Bool} → d ≡ in_i64 (o +ℤ pos (r - u)) → not d ≡ arrays.leaves_at es ss c os k
        high_test_part e g f = high_leaves es part c placed_part u u_is r reach_is o _ o_is e g f ∙ leaves_part

-- one of all operands
pub stands_at : {es : List ℕ} {ss : List ℤ} {c : List ℕ} {os : List ℤ} {operands : ℕ} (k : ℕ) → arrays.Standing es ss c os operands → k < operands → arrays.StandsAt es ss c os k
stands_at k h there =
    let a = h.laid.apart in
    let b = h.laid.all in
    record { laid = omega (arith, a, b, there); offsets = omega (arith, h.offsets, there); within = h.within; near = h.near k there }
