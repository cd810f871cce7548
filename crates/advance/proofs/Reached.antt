-- A STATE THAT A BEGUN WALK REACHES, on a plan's arrays: it has the room that a move to the next block asks for, and the move leaves the
-- machine's next state. What a walk to the end inside the library stands on.
-- Assumes nothing.
use mathlib.Core.Path.{◌≡◌, refl, sym, ap, ap₂, ◌∙◌, subst}
use mathlib.Core.Bool.{Bool, true, false, not}
use mathlib.Core.List.{List}
use Rattle.std.specs.Prelude.{Option, None, Some}
use Prim.Native.Nat.{ℕ, zero, suc, ◌+◌, ◌-◌, ◌*◌, ◌^◌, ◌≤◌, ◌<◌}
use native.Mathlib.Omega.{arith}
use lib.Dec.{ltb}
use lib.IntN.{ℤ, pos, nat_abs, ◌+ℤ◌, ◌-ℤ◌, +ℤ-neg_ℤ_cancel}
use lib.ListN.{length, get_or, replicate, length-replicate}
use lib.Signed.{mag}
use borrow.Author.Tests.{ltb-true, ltb-false}
use mir.Syntax.{w64}
use mir.Val.{SFits}
use Rattle.strided.specs.Base.{padded, some_of}
use Rattle.strided.specs.Layout.{Within, NoZero, has_zero, dot, reach, max_i}
use Rattle.strided.specs.Refusals.{some_operand, leaves}
use Rattle.strided.specs.Walk.{next, zeros}
use Rattle.strided.specs.Begin.{plan_extents, plan_row, plan_rows, begin_rows, begin_refused}
use Rattle.strided.specs.Step.{offsets_from, plan_cut_axes, packed}
use Rattle.strided.specs.declared.Plan.{Plan}
use Rattle.strided.specs.declared.Walk.{Walk}
use Rattle.laws.specs.Base.Arrays.{length-padded, get_d_padded}
use Rattle.laws.specs.Base.Layouts.{within-at, at-within, within-total, total_nozero}
use Rattle.laws.specs.Base.Refusals.{NoneApplies, none_applies}
use Rattle.laws.specs.Refusals.Operands.{some_of_at}
use Rattle.laws.specs.Refusals.Reaches.{term_reach}
use Rattle.laws.specs.Refusals.Rows.{unless-passes}
use Rattle.laws.specs.Refusals.Zeros.{no_zero_test}
use Rattle.laws.specs.Walk.States.{state_after, Wide}
use Rattle.laws.specs.Walk.Cuts.{length-zeros}
use Rattle.laws.specs.Walk.Row9.{row9_exact}
use Rattle.laws.specs.Walk.Steps.{Ready, none_of, at, wide, as_many, cut-many, offsets_zeros}
use Rattle.advance.specs.declared.State.{State}
use Rattle.advance.specs.Filled.{by_lt, filled_length, filled_at}
use Rattle.advance.specs.Axis.{tile_at, starts_to}
use Rattle.advance.specs.Carry.{Carried, next_of, dot_to, start_at, state_of, Below, Roomy, Tiled, AdvancedTo}
use Rattle.advance.specs.Blocks.{offsets_at}
use Rattle.advance.proofs.Bridge.{from, axes_at, put}
use Rattle.advance.proofs.Offsets.{dot_list, moved_offsets}
use Rattle.advance.specs.Sized.{Sized}
use Rattle.advance.proofs.Plans.{W, C, O, axes, row-length, stride_at, dot_is, offset_at_lem, offsets_are, long, within, extent_at, next_is, long_next}

length_from : (a : List ℕ) (i n : ℕ) → length (from a i n) ≡ n
length_from a i zero = refl
length_from a i (suc n) = ap suc (length_from a (suc i) n)

get_d_from : (a : List ℕ) (i n j : ℕ) → j < n → get_or (from a i n) j 0 ≡ get_or a (i + j) 0
get_d_from a i zero j h = absurd (bad j h)
  where
    bad : (j : ℕ) → j < 0 → ⊥
    bad j h = omega arith
get_d_from a i (suc n) zero h = let e : i + 0 ≡ i = omega arith in rw e
get_d_from a i (suc n) (suc j) h = let e : i + suc j ≡ suc i + j = omega arith in rw e (get_d_from a (suc i) n j (omega arith))

from_at : (a : List ℕ) (n j : ℕ) → j < n → get_or (from a 0 n) j 0 ≡ get_or a j 0
from_at a n j h = let z : 0 + j ≡ j = omega arith in get_d_from a 0 n j h ∙ ap (λ (i : ℕ). get_or a i 0) z

-- each block size of an array of axes is 1 or more
wide_at : (e ws : List ℕ) (n i : ℕ) → Wide (axes_at e ws i n) → (j : ℕ) → i ≤ j → j < i + n → 0 < get_or ws j 0
wide_at e ws zero i h j p q = absurd (bad p q)
  where
    bad : i ≤ j → j < i + 0 → ⊥
    bad p q = omega arith
wide_at e ws (suc n) i h j p q =
    by_lt i j (λ l. wide_at e ws n (suc i) h.1 j l (omega arith)) (λ l. subst (λ (k : ℕ). 0 < get_or ws k 0) (let g : i ≡ j = omega arith in g) h.0)

module _ (p : Plan) (zs : List ℤ) (r : Ready p zs) (z : Sized p) where
  -- ---- tiles

  pub widths_pos : (i : ℕ) → i < p.rank → 0 < get_or (W p zs r z) i 0
  widths_pos i h = wide_at p.extents (W p zs r z) p.rank 0 (subst Wide (sym (axes p zs r z)) (wide p zs r)) i (omega arith) (omega arith)

  pub tiled : (c : List ℕ) → (o : List ℤ) → Tiled p (W p zs r z) (state_of (starts_to (W p zs r z) c p.rank) c o)
  tiled c o =
      let l : length {A = ℕ} (replicate 64 0) ≡ 64 = length-replicate {A = ℕ} 64 0 in
      let a : p.rank ≤ 64 = r.axes in
      record {
        placed = filled_length (replicate 64 0) (tile_at (W p zs r z) c) p.rank ∙ l;
        wide = widths_pos;
        start = λ i h. filled_at (replicate 64 0) (tile_at (W p zs r z) c) 0 p.rank i h (omega (arith, l, a));
      }

  -- ---- room, at the state c of a walk that runs

  module _ (n : ℕ) (c : List ℕ) (e : state_after (plan_cut_axes p) n ≡ Some c) where
    abbrev E : List ℕ
    E = plan_extents p

    inside : Within E c
    inside = within p zs r z n c e

    full : NoZero E
    full = total_nozero E (within-total E c inside)

    rows : NoneApplies (begin_rows p zs)
    unfolding begin_refused
    rows = none_applies (begin_rows p zs) (none_of (begin_refused p zs) r.may)

    -- a row on each operand that does not apply, where no extent is 0
    each : (t : ℕ → Bool) → some_operand E t p.operands ≡ false → (k : ℕ) → k < p.operands → t k ≡ false
    each t h k l = some_of_at t p.operands (unless-passes (has_zero E) (some_of t 0 p.operands) h (no_zero_test E full)) k l

    reach_small : (k : ℕ) → k < p.operands → reach E (plan_row p k) ≤ max_i
    unfolding NoneApplies
    reach_small k l = ltb-false max_i (reach E (plan_row p k)) (each (λ j. ltb max_i (reach E (plan_row p j))) rows.1.1.1.0 k l)

    none_leaves : (k : ℕ) → k < p.operands → leaves E (plan_row p k) (get_or zs k (pos 0)) ≡ false
    unfolding NoneApplies
    none_leaves k l = each (λ j. leaves E (plan_row p j) (get_or zs j (pos 0))) rows.1.1.1.1.1.0 k l

    -- the offset at any index
    fits : (k : ℕ) → k < p.operands → (x : List ℕ) → Below p x
        → SFits w64 (start_at p k (C p zs r z c) (O p zs r z c) +ℤ dot_to p.rank k x p.strides)
    unfolding start_at
    fits k l x hx =
        let y : List ℕ = from x 0 p.rank in
        let ly : length y ≡ p.rank = length_from x 0 p.rank in
        let lr : length (plan_row p k) ≡ p.rank = row-length p zs r z k l in
        let ll : length (plan_row p k) ≡ length E = lr ∙ sym r.long in
        let w : Within E y =
        at-within E y (ly ∙ sym r.long) (λ j h. let j' : j < p.rank = subst (λ (m : ℕ). j < m) r.long h in
        subst (λ (m : ℕ). m < get_or E j 0) (sym (from_at x p.rank j j'))
        (subst (λ (m : ℕ). get_or x j 0 < m) (sym (extent_at p zs r z n c e j j')) (hx j j'))) in
        let d : dot_to p.rank k x p.strides ≡ dot y (plan_row p k) =
        dot_list p.rank k x p.strides y (plan_row p k) ly lr (λ i h. sym (from_at x p.rank i h)) (λ i h. sym (stride_at p zs r z k i h)) in
        let s : get_or (O p zs r z c) k (pos 0) -ℤ dot_to p.rank k (C p zs r z c) p.strides ≡ get_or zs k (pos 0) =
        ap₂ (λ (a b : ℤ). a -ℤ b) (offset_at_lem p zs r z c k l) (dot_is p zs r z k c l (long p zs r z n c e)) ∙ +ℤ-neg_ℤ_cancel (get_or zs k (pos 0)) (dot c (plan_row p k)) in
        let q = (row9_exact E (plan_row p k) (get_or zs k (pos 0)) ll full).0 (none_leaves k l) y w in
        subst (SFits w64) (sym (ap₂ (λ (a b : ℤ). a +ℤ b) s d)) (record { sfits = ltb-true (mag (get_or zs k (pos 0) +ℤ dot y (plan_row p k))) (2 ^ 63) q })

    pub roomy : (t : List ℕ) → Roomy p (state_of t (C p zs r z c) (O p zs r z c))
    roomy t =
        record {
          axes = r.axes;
          few = r.few;
          counted = length-padded 0 64 c;
          offered = length-padded (pos 0) 8 (offsets_from (plan_rows p) zs c);
          within = λ i h.
              let a : p.rank ≤ 64 = r.axes in
              let b : get_or c i 0 < get_or E i 0 = within-at E c i inside (subst (λ (m : ℕ). i < m) (sym r.long) h) in
              subst (λ (m : ℕ). m < get_or p.extents i 0) (sym (get_d_padded 0 64 c i (omega (arith, a, h)))) (subst (λ (m : ℕ). get_or c i 0 < m) (extent_at p zs r z n c e i h) b);
          span = λ k i l h.
              let lr : length (plan_row p k) ≡ p.rank = row-length p zs r z k l in
              let le : i < length E = subst (λ (m : ℕ). i < m) (sym r.long) h in
              let a : (get_or E i 0 - 1) * nat_abs (get_or (plan_row p k) i (pos 0)) ≤ reach E (plan_row p k) = term_reach E (plan_row p k) i le (subst (λ (m : ℕ). i < m) (sym lr) h) in
              let b : reach E (plan_row p k) ≤ max_i = reach_small k l in
              let d : (get_or E i 0 - 1) * nat_abs (get_or (plan_row p k) i (pos 0)) ≡ (get_or p.extents i 0 - 1) * nat_abs (get_or p.strides (k * 64 + i) (pos 0)) =
              ap₂ (λ (m : ℕ) (t : ℤ). (m - 1) * nat_abs t) (extent_at p zs r z n c e i h) (stride_at p zs r z k i h) in
              subst (λ (m : ℕ). m < 2 ^ 63) d (omega (arith, a, b));
          reach = fits;
        }

    -- the walk that counters d lead to
    abbrev walk_at : Carried → Walk
    walk_at k =
        record {
          ended = not k.more;
          counters = k.counters;
          offsets = offsets_at p (C p zs r z c) (O p zs r z c) k.counters;
        }

    walk_put : (o : Option (List ℕ)) → ((d : List ℕ) → o ≡ Some d → length d ≡ p.rank) → packed (at p zs r o) ≡ walk_at (put 64 (zeros (plan_cut_axes p)) o)
    walk_put None h =
        let l : length (zeros (plan_cut_axes p)) ≡ p.rank = length-zeros (plan_cut_axes p) ∙ cut-many p zs r in
        let q : padded 8 (pos 0) zs ≡ offsets_at p (C p zs r z c) (O p zs r z c) (C p zs r z (zeros (plan_cut_axes p))) =
        sym (offsets_are p zs r z c (zeros (plan_cut_axes p)) (long p zs r z n c e) l ∙ ap (padded 8 (pos 0)) (offsets_zeros (plan_cut_axes p) (plan_rows p) zs (as_many p zs r))) in
        λ i. record { ended = true; counters = padded 64 0 (zeros (plan_cut_axes p)); offsets = q i }
    walk_put (Some d) h =
        let q : O p zs r z d ≡ offsets_at p (C p zs r z c) (O p zs r z c) (C p zs r z d) =
        sym (offsets_are p zs r z c d (long p zs r z n c e) (h d refl)) in
        λ i. record { ended = false; counters = padded 64 0 d; offsets = q i }

    -- THE MOVE: what it leaves is the machine's next state
    pub advanced : {t : List ℕ} {more : Bool} {at' : State}
        → AdvancedTo p (W p zs r z) (state_of t (C p zs r z c) (O p zs r z c)) more at'
        → ◌≡◌ {A = Walk} (record { ended = not more; counters = at'.counters; offsets = at'.offsets }) (packed (at p zs r (next (plan_cut_axes p) c)))
    advanced {t} {more} {at'} m =
        let q : at'.offsets ≡ offsets_at p (C p zs r z c) (O p zs r z c) (next_of p.rank p.extents (W p zs r z) (C p zs r z c)).counters = moved_offsets (roomy t) m in
        (λ i. record { ended = not (m.answer i); counters = m.counters i; offsets = q i })
        ∙ ap walk_at (next_is p zs r z n c e)
        ∙ sym (walk_put (next (plan_cut_axes p) c) (long_next p zs r z n c e))
