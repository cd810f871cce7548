-- Where no number of a state is large: what is gathered above a bound, and rows 6 and 9, which do not apply. Assumes nothing.
use mathlib.Core.Path.{◌≡◌, refl, sym, ap, ◌∙◌}
use mathlib.Core.Bool.{Bool, true, false, not, ◌&&◌, false≢true}
use mathlib.Core.List.{List, [], ◌∷◌}
use Prim.Native.Nat.{ℕ, zero, suc, ◌+◌, ◌-◌, ◌*◌, ◌^◌, ◌≤◌, ◌<◌}
use native.Mathlib.Nat.{mul-le-mul_right}
use native.Mathlib.Omega.{arith}
use lib.Dec.{ltb}
use lib.IntN.{ℤ, pos, negsuc, nat_abs, ◌+ℤ◌, ◌-ℤ◌}
use lib.ListN.{length, get_or}
use borrow.Author.Tests.{ltb-true, lt-ltb, le-ltb}
use Rattle.strided.specs.Base.{every, some_of}
use Rattle.strided.specs.Layout.{Within, has_zero, in_i64, dot, reach, max_i}
use Rattle.strided.specs.Refusals.{row6}
use Rattle.laws.specs.Base.Ranges.{every_fails}
use Rattle.laws.specs.Base.Tests.{and_both}
use Rattle.laws.specs.Refusals.Operands.{some_of_none}
use Rattle.laws.specs.Walk.Row9.{below_of, below-reach, leaves_at_lem}
use Rattle.strided.specs.Begin.{plan_extents, plan_row}
use Rattle.strided.specs.declared.Plan.{Plan}
use Rattle.layout.specs.Rows.{far_at}
use Rattle.layout.specs.Near.{all_below}
use Rattle.states.specs.Near.{RowsNear, Near}
use Rattle.states.specs.Starts.{leaves_at, some_leave}
use Rattle.states.proofs.Rooms.{pos_room, neg_mag, neg_room}

-- ---- the strides of every operand, where one test was made of each

module _ (p : Plan) where
  abbrev near_at : ℕ → Bool
  near_at k = all_below nat_abs (2 ^ 40) (plan_row p k)

  pub rows_all : every (λ k. all_below nat_abs (2 ^ 40) (plan_row p k)) 0 p.operands ≡ true → RowsNear p
  rows_all h k l = go (near_at k) refl
    where
      go : (b : Bool) → near_at k ≡ b → near_at k ≡ true
      go true q = q
      go false q =
          let e : 0 + k ≡ k = omega arith in
          absurd (false≢true (sym (every_fails near_at 0 p.operands k l (ap near_at e ∙ q)) ∙ h))

-- ---- rows 6 and 9

product : (e m : ℕ) → e < 2 ^ 16 → m < 2 ^ 40 → (e - 1) * m < 2 ^ 56
product e m h l =
    let a : e - 1 ≤ 65535 = omega arith in
    let p : (e - 1) * m ≤ 65535 * m = mul-le-mul_right m a in
    omega arith

near-reach : (es : List ℕ) (ts : List ℤ) → all_below (λ n. n) (2 ^ 16) es ≡ true → all_below nat_abs (2 ^ 40) ts ≡ true → reach es ts ≤ length es * 2 ^ 56
near-reach [] ts h l = omega arith
near-reach (e ∷ es) [] h l = omega arith
near-reach (e ∷ es) (t ∷ ts) h l =
    let a = and_both (ltb e (2 ^ 16)) (all_below (λ n. n) (2 ^ 16) es) h in
    let b = and_both (ltb (nat_abs t) (2 ^ 40)) (all_below nat_abs (2 ^ 40) ts) l in
    omega (arith, product e (nat_abs t) (ltb-true e (2 ^ 16) a.0) (ltb-true (nat_abs t) (2 ^ 40) b.0), near-reach es ts a.1 b.1)

size_at_lem : (m : ℕ) (zs : List ℤ) (k : ℕ) → 0 < m → all_below nat_abs m zs ≡ true → nat_abs (get_or zs k (pos 0)) < m
size_at_lem m [] k p h = p
size_at_lem m (z ∷ zs) zero p h = ltb-true (nat_abs z) m (and_both (ltb (nat_abs z) m) (all_below nat_abs m zs) h).0
size_at_lem m (z ∷ zs) (suc k) p h = size_at_lem m zs k p (and_both (ltb (nat_abs z) m) (all_below nat_abs m zs) h).1

room_low : (o : ℤ) → nat_abs o < 2 ^ 62 → (b : ℕ) → b ≤ 2 ^ 62 → in_i64 (o -ℤ pos b) ≡ true
room_low (pos a) h b l = lt-ltb _ _ (pos_room a b (omega arith) (omega arith))
room_low (negsuc a) h b l = lt-ltb _ _ (omega (arith, neg_mag a b))

room_high : (o : ℤ) → nat_abs o < 2 ^ 62 → (b : ℕ) → b ≤ 2 ^ 62 → in_i64 (o +ℤ pos b) ≡ true
room_high (pos a) h b l = lt-ltb _ _ (omega arith)
room_high (negsuc a) h b l = lt-ltb _ _ (neg_room a b (omega arith) (omega arith))

never : (z : Bool) → (z && false) ≡ false
never true = refl
never false = refl

module _ (p : Plan) (os : List ℤ) (few : length (plan_extents p) ≤ 64) (n : Near p os) where
  abbrev es : List ℕ
  es = plan_extents p

  within-reach : (k : ℕ) → k < p.operands → reach es (plan_row p k) ≤ 2 ^ 62
  within-reach k h = omega (arith, near-reach es (plan_row p k) n.extents (n.strides k h), few)

  pub near-row6 : (row6 es p.operands (plan_row p)).applies ≡ false
  near-row6 =
      rw (some_of_none (far_at es (plan_row p)) p.operands (λ k l. le-ltb max_i (reach es (plan_row p k)) (omega (arith, within-reach k l)))) (never (not (has_zero es)))

  module _ (c : List ℕ) (long : (k : ℕ) → k < p.operands → length (plan_row p k) ≡ length es) (all : p.operands ≤ length os) (inside : has_zero es ≡ false → Within es c) where
    stays : Within es c → (k : ℕ) → k < p.operands → leaves_at p c os k ≡ false
    unfolding leaves_at
    stays w k h =
        let ts : List ℤ = plan_row p k in
        let o : ℤ = get_or os k (pos 0) in
        let u : ℕ = below_of es ts c in
        let lo : u ≤ reach es ts = below-reach es ts c w in
        let r : reach es ts ≤ 2 ^ 62 = within-reach k h in
        let s : nat_abs o < 2 ^ 62 = size_at_lem (2 ^ 62) os k (omega arith) n.offsets in
        leaves_at_lem es ts (o -ℤ dot c ts) (long k h) c w o refl
        ∙ rw (room_low o s u (omega arith), room_high o s (reach es ts - u) (omega arith))

    pub near-stays : some_leave p c os ≡ false
    unfolding some_leave
    near-stays = go (has_zero es) refl
      where
        go : (z : Bool) → has_zero es ≡ z → (not z && some_of (leaves_at p c os) 0 p.operands) ≡ false
        go true q = refl
        go false q = some_of_none (leaves_at p c os) p.operands (stays (inside q))
