-- Laws of the loop over the axes, and of the test that the code makes of a start that is not negative.
-- Assumes nothing.
use mathlib.Core.Path.{◌≡◌, refl, sym, ap, ap₂, ◌∙◌, subst}
use mathlib.Core.Bool.{Bool, true, false, cond, not, ◌&&◌, false≢true}
use mathlib.Core.List.{List, [], ◌∷◌}
use mathlib.Core.Logic.{◌⊎◌, ⊎_elim}
use Prim.Native.Nat.{ℕ, zero, suc, ◌+◌, ◌-◌, ◌*◌, ◌^◌, ◌≤◌, ◌<◌, min}
use native.Mathlib.Omega.{arith}
use lib.Dec.{T, ltb, leb}
use lib.IntN.{ℤ, pos, negsuc, nat_abs, ◌-ℤ◌}
use lib.ListN.{length}
use lib.Signed.{non_neg, lt_z}
use mir.Syntax.{w64}
use mir.Val.{SFits, to_z, of_z}
use mir.Facts.{to_z-of_z}
use borrow.Author.Tests.{ltb-true, lt-ltb, le-ltb, leb-true, leb-false}
use Rattle.laws.specs.Base.Tests.{both_and}
use Rattle.strided.specs.Layout.{has_zero, reach, reach_down}
use Rattle.laws.specs.Refusals.Zeros.{no_zero_of}
use Rattle.laws.specs.Walk.Row9.{below_term, down_reach}
use Rattle.span.specs.Span.{in_cells, outside, Spans}
use Rattle.span.specs.Ways.{Full}

-- ---- the sum over the axes

-- what is summed up, and the axes that are left, es' and ts'
pub record Left (es : List ℕ) (ts : List ℤ) (sum : ℕ) (es' : List ℕ) (ts' : List ℤ) : Type 0 where
  pub full : Full es' ts'
  pub whole : sum + reach_down es' ts' ≡ reach_down es ts

-- an axis's part of the way below the start is the part below the counter 0
down_below : (e : ℕ) (t : ℤ) → cond (non_neg t) 0 ((e - 1) * nat_abs t) ≡ below_term e 0 t
unfolding below_term
down_below e (pos a) = omega arith
down_below e (negsuc a) = ap (λ (n : ℕ). n * suc a) (let q : e - 1 ≡ e - 1 - 0 = omega arith in q)

pub left_start : {es : List ℕ} {ts : List ℤ} {us : List ℕ} {vs : List ℤ} → Full es ts → us ≡ es → vs ≡ ts → Left es ts 0 us vs
left_start p e f = rw (e, f) (record { full = p; whole = omega arith })

module _ {es : List ℕ} {ts : List ℤ} {sum : ℕ} {us : List ℕ} {vs : List ℤ} (l : Left es ts sum us vs) where
  -- one axis is in front of others
  module _ {e : ℕ} {t : ℤ} {es' : List ℕ} {ts' : List ℤ} (p : us ≡ e ∷ es') (q : vs ≡ t ∷ ts') where
    here : Left es ts sum (e ∷ es') (t ∷ ts')
    here = subst (λ (x : List ℕ). Left es ts sum x (t ∷ ts')) p (subst (λ (y : List ℤ). Left es ts sum us y) q l)

    -- its way is within the reach
    pub way : (e - 1) * nat_abs t < 2 ^ 63
    way = omega (arith, here.full.near)

    pub some : 0 < e
    some = here.full.whole.0

    others : Full es' ts'
    others =
        let h = here.full in
        let n : suc (length ts') ≡ suc (length es') = h.long in
        record { long = omega arith; whole = h.whole.1; near = omega (arith, h.near) }

    module _ {n : ℕ} (is : n ≡ below_term e 0 t) where
      pub left_turn : Left es ts (sum + n) es' ts'
      left_turn = record { full = others; whole = omega (arith, here.whole, is, down_below e t) }

      pub left_fits : Full es ts → sum + n < 2 ^ 64
      left_fits f = omega (arith, left_turn.whole, down_reach es ts, f.near)

  -- none is left
  pub none_left : (length us ≡ 0) ⊎ (length vs ≡ 0) → sum ≡ reach_down es ts
  none_left o = ⊎_elim (λ (e : length us ≡ 0). go us e l) (λ (e : length vs ≡ 0). go us (omega (arith, e, l.full.long)) l) o
    where
      go : (xs : List ℕ) → length xs ≡ 0 → Left es ts sum xs vs → sum ≡ reach_down es ts
      go [] e h = omega (arith, h.whole)
      go (x ∷ xs) e h = absurd (omega arith)

-- ---- the test

pub full : (es : List ℕ) (ts : List ℤ) → Spans es ts → has_zero es ≡ false → Full es ts
full es ts p h = record { long = p.long; whole = no_zero_of es h; near = p.near h }

-- a zero extent has no cell
pub no_cell : (es : List ℕ) (ts : List ℤ) (z : ℤ) (n : ℕ) → has_zero es ≡ true → false ≡ outside es ts z n
unfolding outside
no_cell es ts z n h = rw h

and_false : (a : Bool) {b : Bool} → b ≡ false → (a && b) ≡ false
and_false true h = h
and_false false h = refl

-- a number taken off
minus : (a b : ℕ) → b ≤ a → pos a -ℤ pos b ≡ pos (a - b)
minus a zero h = ap pos (let e : a + 0 ≡ a - 0 = omega arith in e)
minus a (suc b) h = ap (λ (t : Bool). cond t (negsuc (suc b - suc a)) (pos (a - suc b))) (le-ltb a (suc b) h)

under : (n a b : ℕ) → a < b → in_cells n (pos a -ℤ pos b) ≡ false
under n a zero h = absurd (omega arith)
under n a (suc b) h = ap (λ (t : Bool). in_cells n (cond t (negsuc (suc b - suc a)) (pos (a - suc b)))) (lt-ltb a (suc b) h)

module _ (es : List ℕ) (ts : List ℤ) (n : ℕ) (h : has_zero es ≡ false) where
  below-neg : (a d : ℕ) → in_cells n (negsuc a -ℤ pos d) ≡ false
  below-neg a zero = ap (λ (t : Bool). in_cells n (cond t (negsuc (suc a - 1)) (pos (0 - suc a)))) (lt-ltb 0 (suc a) (let q : 0 < suc a = omega arith in q))
  below-neg a (suc d) = refl

  -- a negative start is that of no cell
  pub starts_below : (z : ℤ) → lt_z z (pos 0) ≡ true → true ≡ outside es ts z n
  unfolding outside
  starts_below (pos a) t = absurd (omega (arith, ltb-true a 0 t))
  starts_below (negsuc a) t = sym (rw (h, below-neg a (reach_down es ts)))

  pub falls_below : (a d : ℕ) → d ≡ reach_down es ts → a < d → true ≡ outside es ts (pos a) n
  unfolding outside
  falls_below a d is l = sym (rw (h, under n a (reach_down es ts) (let q : a < reach_down es ts = omega arith in q)))

  pub rises_above : (a d r : ℕ) → d ≡ reach_down es ts → r ≡ reach es ts → d ≤ a → leb n (a + (r - d)) ≡ outside es ts (pos a) n
  unfolding outside
  rises_above a d r is rs l = sym (rw (h, minus a (reach_down es ts) (let q : reach_down es ts ≤ a = omega arith in q)) (last (leb n (a + (r - d))) refl))
    where
      top : a + (r - d) ≡ a + (reach es ts - reach_down es ts)
      top = ap₂ (λ (x y : ℕ). a + (x - y)) rs is

      last : (b : Bool) → leb n (a + (r - d)) ≡ b → not (ltb (a - reach_down es ts) n && ltb (a + (reach es ts - reach_down es ts)) n) ≡ b
      last true e = let q : n ≤ a + (reach es ts - reach_down es ts) = subst (λ (m : ℕ). n ≤ m) top (leb-true n (a + (r - d)) e) in ap not (and_false (ltb (a - reach_down es ts) n) (le-ltb (a + (reach es ts - reach_down es ts)) n q))
      last false e = let q : a + (reach es ts - reach_down es ts) < n = subst (λ (m : ℕ). m < n) top (leb-false n (a + (r - d)) e) in ap not (both_and (ltb (a - reach_down es ts) n) (ltb (a + (reach es ts - reach_down es ts)) n) (lt-ltb (a - reach_down es ts) n (let w : a - reach_down es ts < n = omega (arith, q) in w)) (lt-ltb (a + (reach es ts - reach_down es ts)) n q))

-- ---- a start that is not negative, as the code reads it

module _ (z : ℤ) (f : SFits w64 z) (t : lt_z (to_z w64 (of_z w64 z)) (pos 0) ≡ false) where
  start_of : (y : ℤ) → lt_z y (pos 0) ≡ false → SFits w64 y → T (non_neg y) × (nat_abs y < 2 ^ 63) × (pos (nat_abs y) ≡ y)
  start_of (pos a) t f = (tt, f.sfits, refl)
  start_of (negsuc a) t f = absurd (false≢true (sym t))

  back : (z ≡ to_z w64 (of_z w64 z)) × (T (non_neg (to_z w64 (of_z w64 z))) × (nat_abs (to_z w64 (of_z w64 z)) < 2 ^ 63) × (pos (nat_abs (to_z w64 (of_z w64 z))) ≡ to_z w64 (of_z w64 z)))
  back = (sym (to_z-of_z f), start_of (to_z w64 (of_z w64 z)) t (subst (λ (y : ℤ). SFits w64 y) (sym (to_z-of_z f)) f))

  module _ (es : List ℕ) (ts : List ℤ) (n : ℕ) (p : Spans es ts) (h : has_zero es ≡ false) (d : ℕ) (is : d ≡ reach_down es ts) where
    at_start : outside es ts (pos (nat_abs (to_z w64 (of_z w64 z)))) n ≡ outside es ts z n
    at_start = ap (λ (y : ℤ). outside es ts y n) (back.1.2 ∙ to_z-of_z f)

    pub too_low : nat_abs (to_z w64 (of_z w64 z)) < d → true ≡ outside es ts z n
    too_low l = falls_below es ts n h (nat_abs (to_z w64 (of_z w64 z))) d is l ∙ at_start

    module _ (r : ℕ) (rs : r ≡ min (reach es ts) (2 ^ 63)) where
      reach_is : r ≡ reach es ts
      reach_is = let q = p.near h in omega (arith, q, rs)

      pub down_le : d ≤ r
      down_le = omega (arith, reach_is, is, down_reach es ts)

      pub top_test : d ≤ nat_abs (to_z w64 (of_z w64 z)) → leb n (nat_abs (to_z w64 (of_z w64 z)) + (r - d)) ≡ outside es ts z n
      top_test l = rises_above es ts n h (nat_abs (to_z w64 (of_z w64 z))) d r is reach_is l ∙ at_start
