-- ALONG THE WAY: going on by so many blocks is what as many steps of the walk do, and what `go_steps`, `go_behind` and `take_stretch` ask and leave.
-- Assumes nothing.
use mathlib.Core.Path.{◌≡◌, refl, sym, ap, ◌∙◌, subst}
use mathlib.Core.Bool.{Bool, true, false, cond}
use mathlib.Core.List.{List}
use Rattle.std.specs.Prelude.{Option, None, Some}
use Prim.Native.Nat.{ℕ, zero, suc, ◌+◌, ◌-◌, ◌*◌, ◌≤◌, ◌<◌, ◌^◌, min}
use native.Mathlib.Nat.{mul-one, zero-mul, suc-mul}
use native.Mathlib.Omega.{arith}
use lib.Dec.{ltb, eqb}
use lib.IntN.{ℤ, pos}
use lib.ListN.{length, get_or, set}
use lib.Seq.{get_or-set_same, get_or-set_other, set-set, set-get_or}
use borrow.Author.Tests.{le-ltb, ltb-false, ne_eqb}
use Rattle.advance.specs.Axis.{start_of, ahead, back, inside_goal, tile_goal, goal_of}
use Rattle.advance.specs.Blocks.{length_by, length_of}
use Rattle.advance.specs.Filled.{by_lt, filled_above}
use Rattle.advance.specs.Moves.{shifted, moved_at}
use Rattle.advance.specs.Carry.{Carried, carry_of, next_of, state_of, Standing, Roomy, Tiled, MovedTo, AdvancedTo}
use Rattle.advance.proofs.Axis.{start_one, start_whole, start_on, start_tiles}
use Rattle.advance.proofs.Dot.{roomy_shifts, roomy_moved, start_stays}
use Rattle.advance.proofs.Turns.{stands_on, tiled_set, passed, passed_single}
use Rattle.strided.specs.declared.Plan.{Plan}
use Rattle.advance.specs.declared.State.{State}
use Rattle.walker.specs.declared.Course.{Course}
use Rattle.walker.specs.declared.way.Way.{Way}
use Rattle.walker.specs.Way.{Along, Leads, AtEnd, left_in, left_of, onward, OnTo, MayGo, Gone, Strides, Leaves, MayTell, Passed, Strode}
use Rattle.walker.proofs.Ahead.{inside_next, tiles-fit, tile_next, left_inside, left_tile, left_some}

-- ---- axes that stay where they are

whole-goal : (extent w at : ℕ) → extent ≤ w → at < extent → at ≡ 0 → goal_of false extent w at ≡ back at
unfolding goal_of tile_goal
whole-goal extent w at h l z =
    rw (start_whole w at (omega (arith, h, l)), le-ltb w (extent - 0) (omega (arith, h))) (ap back (sym z))

-- ---- one move and another

module _ {X Y : Carried} {P : Plan} {w : List ℕ} {at at₁ at₂ : State} {b more : Bool} where
  -- one behind the other
  pub then_moved : MovedTo X P w at b at₁ → MovedTo Y P w at₁ more at₂ → MovedTo Y P w at more at₂
  then_moved m n = record {
    answer = n.answer;
    counters = n.counters;
    roomy = n.roomy;
    tiled = n.tiled;
    starts = λ k p. n.starts k p ∙ m.starts k p;
    others = λ k p. n.others k p ∙ m.others k p;
  }

  -- both from the same state: the second as it goes from where the first led
  pub moved-from : MovedTo X P w at b at₁ → MovedTo Y P w at more at₂ → {Z : Carried} → Z ≡ Y → MovedTo Z P w at₁ more at₂
  moved-from m n e = record {
    answer = n.answer ∙ ap (λ (x : Carried). x.more) (sym e);
    counters = n.counters ∙ ap (λ (x : Carried). x.counters) (sym e);
    roomy = n.roomy;
    tiled = n.tiled;
    starts = λ k p. n.starts k p ∙ sym (m.starts k p);
    others = λ k p. n.others k p ∙ sym (m.others k p);
  }

module _ (inside : Bool) (e w : List ℕ) where
  -- the first axis that moves goes ahead
  goes : (n i : ℕ) (c : List ℕ) (v u : ℕ) → 0 < n → goal_of inside (get_or e i 0) (get_or w i 0) (get_or c i 0) ≡ ahead v u
      → carry_of inside e w n i c ≡ record { more = true; counters = set c i v }
  unfolding carry_of
  goes zero i c v u h a = absurd (let z : ⊥ = omega arith in z)
  goes (suc n) i c v u h a = rw a

-- ---- along the way, from the counters c

pub on_none : (y : Option Way) (c : List ℕ) → onward y c 0 ≡ c
on_none None c = refl
on_none (Some y) c = let e : get_or c y.axis 0 + 0 * y.by ≡ get_or c y.axis 0 = omega (arith, zero-mul y.by) in ap (set c y.axis) e ∙ set-get_or c y.axis 0

full_length : (w left : ℕ) → w ≤ left → cond (ltb w left) w left ≡ w
full_length w left h = go (ltb w left) refl
  where
    go : (b : Bool) → ltb w left ≡ b → cond b w left ≡ w
    go true e = refl
    go false e = omega (arith, ltb-false w left e, h)

-- a state on a course
pub record Striding (y : Option Way) (p : Plan) (w : List ℕ) (at : State) : Type 0 where
  pub leads : Leads y p w
  pub strides : Strides p w at

pub striding : {y : Option Way} {p : Plan} {w : List ℕ} {at : State} → Leads y p w → Strides p w at → Striding y p w at
striding l k = record { leads = l; strides = k }

-- where there is a way
pub on_way : {v : Option Way} {p : Plan} {w : List ℕ} → Leads v p w → {y : Way} → v ≡ Some y → {at : State} → Strides p w at → Striding (Some y) p w at
on_way l e k = record { leads = record { along = λ v q. l.along v (e ∙ q) }; strides = k }

pub course_on : (x : Course) {y : Way} → x.way ≡ Some y → {at : State} → Strides x.tiling.plan.now x.tiling.widths at → Striding (Some y) x.tiling.plan.now x.tiling.widths at
course_on x e k = on_way x.leads e k

pub leads_some : {v : Way} {p : Plan} {w : List ℕ} → Along v p w → Leads (Some v) p w
leads_some {v} {p} {w} a = record { along = λ u q. let e : v ≡ u = cc in subst (λ (x : Way). Along x p w) e a }

-- no move
pub unmoved_on : (y : Option Way) {P : Plan} {w : List ℕ} {at : State} → Strides P w at → OnTo y 0 P w at at
unmoved_on y {at = at} k = record { answer = refl; counters = sym (on_none y at.counters); roomy = k.roomy; tiled = k.tiled; starts = λ k p. refl; others = λ k p. refl }

-- where there is a way
module _ {y : Way} {P : Plan} {w : List ℕ} {at : State} (m : Striding (Some y) P w at) where
  abbrev l : Along y P w
  l = m.leads.along y refl

  abbrev r : Roomy P at
  r = m.strides.roomy

  abbrev q : Tiled P w at
  q = m.strides.tiled

  abbrev a : ℕ
  a = y.axis

  abbrev E : ℕ
  E = get_or P.extents y.axis 0

  abbrev Z : ℕ
  Z = get_or w y.axis 0

  abbrev A : ℕ
  A = get_or at.counters y.axis 0

  -- what `place` asks
  pub left_asks : Standing P w y.axis at
  left_asks = stands_on r q a l.there

  some_on : 0 < left_in y E Z A
  some_on = left_some y E Z A left_asks.wide left_asks.within

  long : y.axis < length at.counters
  long = let x = r.counted in let z = y.small in omega (arith, x, z)

  -- from tile to tile: the axis stands where a tile starts
  pub stands : y.inside ≡ false → A ≡ start_of Z A
  stands i =
      by_lt 0 a (λ p. sym (ap (λ (v : ℕ). start_of v A) (l.tile_still i a p (l.there)) ∙ start_one A))
      (λ p. subst (λ (n : ℕ). get_or at.counters n 0 ≡ start_of (get_or w n 0) (get_or at.counters n 0)) (let z : 0 ≡ a = omega arith in z) (m.strides.start (let z = l.there in omega (arith, z))))

  wide : 0 < Z
  wide = left_asks.wide

  -- THE MOVE of the axis to v, in the tile that starts at s
  pub axis-moved : (v s : ℕ) → v < E → s ≡ start_of Z v
      → MovedTo (record { more = true; counters = set at.counters y.axis v }) P w at true (state_of (set at.tile_starts y.axis s) (set at.counters y.axis v) (shifted P y.axis A v at.offsets))
  axis-moved v s b f = record {
    answer = refl;
    counters = refl;
    roomy = roomy_moved P at r a v (l.there) b (set at.tile_starts y.axis s);
    tiled = tiled_set P w at r.counted r.axes q a v s (shifted P y.axis A v at.offsets) (l.there) f;
    starts = start_stays P at r a v (l.there) b;
    others = λ k p. filled_above at.offsets (moved_at a A v P.strides at.offsets) (pos 0) P.operands k p;
  }

  inside_by : y.inside ≡ true → (j : ℕ) → j * y.by ≡ j
  inside_by i j = ap (λ (x : ℕ). j * x) (l.inner_by i) ∙ mul-one j

  -- where the axis stands j blocks on
  pub inside-at : (j : ℕ) → y.inside ≡ true → get_or (onward (Some y) at.counters j) y.axis 0 ≡ A + j
  inside-at j i = get_or-set_same at.counters a (A + j * y.by) 0 long ∙ ap (λ (x : ℕ). A + x) (inside_by i j)

  pub tile-at : (j : ℕ) → y.inside ≡ false → get_or (onward (Some y) at.counters j) y.axis 0 ≡ A + j * Z
  tile-at j i = get_or-set_same at.counters a (A + j * y.by) 0 long ∙ ap (λ (v : ℕ). A + j * v) (l.tile_by i)

  pub below : (j : ℕ) → j < left_of (Some y) P w at.counters → A + j * y.by < E
  below j g = go y.inside refl
    where
      go : (b : Bool) → y.inside ≡ b → A + j * y.by < E
      go true i = let x = inside_by i j in let z = left_inside y E Z A i in omega (arith, x, z, g)
      go false i =
          let z = left_tile y E Z A i in
          let x : j * y.by ≡ j * Z = ap (λ (v : ℕ). j * v) (l.tile_by i) in
          by_lt 0 j (λ p. let f = tiles-fit E Z A j wide p (subst (λ (n : ℕ). j < n) z g) in let u = suc-mul j Z in let k = wide in omega (arith, f, u, k, x))
          (λ p. let k = left_asks.within in let u : j * y.by ≡ 0 = ap (λ (n : ℕ). n * y.by) (let v : j ≡ 0 = omega arith in v) ∙ zero-mul y.by in omega (arith, k, u))

  start_at_lem : (j : ℕ) → j < left_of (Some y) P w at.counters → cond y.inside (start_of Z A) (A + j * y.by) ≡ start_of Z (A + j * y.by)
  start_at_lem j g = go y.inside refl
    where
      go : (b : Bool) → y.inside ≡ b → cond b (start_of Z A) (A + j * y.by) ≡ start_of Z (A + j * y.by)
      go true i =
          let z = left_inside y E Z A i in
          let d : j < Z - (A - start_of Z A) = omega (arith, z, g) in
          sym (ap (λ (x : ℕ). start_of Z (A + x)) (inside_by i j) ∙ start_on Z A j wide d)
      go false i =
          let x : j * y.by ≡ j * Z = ap (λ (v : ℕ). j * v) (l.tile_by i) in
          ap (λ (n : ℕ). A + n) x ∙ sym (ap (λ (n : ℕ). start_of Z (A + n)) x ∙ start_tiles Z A j wide (stands i))

  goal-at : (j : ℕ) → suc j < left_of (Some y) P w at.counters → (b : Bool) → y.inside ≡ b
      → goal_of b E Z (get_or (onward (Some y) at.counters j) y.axis 0) ≡ ahead (A + suc j * y.by) (cond b (start_of Z A) (A + suc j * y.by))
  unfolding goal_of
  goal-at j g true i =
      let z = left_inside y E Z A i in
      ap (inside_goal E Z) (inside-at j i) ∙ inside_next E Z A j wide (subst (λ (n : ℕ). suc j < n) z g)
      ∙ ap (λ (x : ℕ). ahead (A + x) (start_of Z A)) (sym (inside_by i (suc j)))
  goal-at j g false i =
      let z = left_tile y E Z A i in
      let x = l.tile_by i in
      ap (tile_goal E Z) (tile-at j i) ∙ tile_next E Z A j wide (stands i) (subst (λ (n : ℕ). suc j < n) z g)
      ∙ ap (λ (v : ℕ). ahead (A + suc j * v) (A + suc j * v)) (sym x)

  other : (j i : ℕ) → (i ≡ a → ⊥) → get_or (onward (Some y) at.counters j) i 0 ≡ get_or at.counters i 0
  other j i n = get_or-set_other at.counters a i (A + j * y.by) 0 n

  -- inside a tile no axis before moves
  still-axes : (j : ℕ) → y.inside ≡ true → carry_of true P.extents w (P.rank - 1) 1 (onward (Some y) at.counters j) ≡ carry_of true P.extents w (P.rank - y.axis) y.axis (onward (Some y) at.counters j)
  still-axes j i =
      let k = l.there in
      let f = l.inner_axis i in
      let x : P.rank - 1 ≡ (a - 1) + (P.rank - a) = omega (arith, k, f) in
      let z : 1 + (a - 1) ≡ a = omega (arith, f) in
      ap (λ (n : ℕ). carry_of true P.extents w n 1 (onward (Some y) at.counters j)) x
      ∙ passed_single P.extents w (a - 1) (P.rank - a) 1 (onward (Some y) at.counters j) (λ n p u. l.inner-still i n p (let b : n < a = omega (arith, u, z) in b))
      ∙ ap (λ (n : ℕ). carry_of true P.extents w (P.rank - a) n (onward (Some y) at.counters j)) z

  -- so that the axis goes, and those behind it
  pub next_inside : (j : ℕ) → y.inside ≡ true → {X : Carried} → carry_of true P.extents w (P.rank - y.axis) y.axis (onward (Some y) at.counters j) ≡ X
      → next_of P.rank P.extents w (onward (Some y) at.counters j) ≡ cond X.more X (carry_of false P.extents w (P.rank - 0) 0 X.counters)
  unfolding next_of
  next_inside j i f = ap (λ (b : Carried). cond b.more b (carry_of false P.extents w (P.rank - 0) 0 b.counters)) (still-axes j i ∙ f)

  at_zero : y.inside ≡ false → (n : ℕ) → n < a → get_or at.counters n 0 ≡ 0
  at_zero i n u =
      let k = l.there in
      let f = l.tile_whole i n u in
      let b = r.within n (let z : n < P.rank = omega (arith, k, u) in z) in
      by_lt 0 n (λ p. let x = l.tile_still i n p (let z : n < P.rank = omega (arith, k, u) in z) in omega (arith, f, b, x))
      (λ p. let z : 0 ≡ n = omega arith in
      subst (λ (m : ℕ). get_or at.counters m 0 ≡ start_of (get_or w m 0) (get_or at.counters m 0)) z (m.strides.start (let x : 0 < P.rank = omega (arith, k) in x)) ∙ start_whole (get_or w n 0) (get_or at.counters n 0) (omega (arith, f, b)))

  -- from tile to tile nothing moves inside the tile, and each axis before has one tile
  pub whole-axes : (j : ℕ) → y.inside ≡ false → next_of P.rank P.extents w (onward (Some y) at.counters j) ≡ carry_of false P.extents w (P.rank - y.axis) y.axis (onward (Some y) at.counters j)
  unfolding next_of carry_of
  whole-axes j i =
      let d : List ℕ = onward (Some y) at.counters j in
      let k = l.there in
      let x : P.rank - 1 ≡ (P.rank - 1) + 0 = omega arith in
      let f : carry_of true P.extents w (P.rank - 1) 1 d ≡ record { more = false; counters = d } =
      ap (λ (n : ℕ). carry_of true P.extents w n 1 d) x
      ∙ passed_single P.extents w (P.rank - 1) 0 1 d (λ n p u. l.tile_still i n p (let z : n < P.rank = omega (arith, u, k) in z)) in
      let z : P.rank - 0 ≡ a + (P.rank - a) = omega (arith, k) in
      let zero_a : 0 + a ≡ a = omega arith in
      ap (λ (b : Carried). cond b.more b (carry_of false P.extents w (P.rank - 0) 0 b.counters)) f
      ∙ ap (λ (n : ℕ). carry_of false P.extents w n 0 d) z
      ∙ passed false P.extents w a (P.rank - a) 0 d (λ n p u.
      let n-lt : n < a = omega (arith, u) in
      let ne : (n ≡ a → ⊥) = omega (arith, u) in
      let v = other j n ne in
      let lt : n < P.rank = omega (arith, k, n-lt) in
      whole-goal (get_or P.extents n 0) (get_or w n 0) (get_or d n 0) (l.tile_whole i n n-lt) (subst (λ (b : ℕ). b < get_or P.extents n 0) (sym v) (r.within n lt)) (v ∙ at_zero i n n-lt))
      ∙ ap (λ (n : ℕ). carry_of false P.extents w (P.rank - a) n d) zero_a

  -- THE NEXT BLOCK is one on
  module _ (j : ℕ) (g : suc j < left_of (Some y) P w at.counters) where
    abbrev d : List ℕ
    d = onward (Some y) at.counters j

    abbrev v : ℕ
    v = A + suc j * y.by

    abbrev goal : Carried
    goal = record { more = true; counters = onward (Some y) at.counters (suc j) }

    carried : (b : Bool) → y.inside ≡ b → carry_of b P.extents w (P.rank - a) a d ≡ goal
    carried b i =
        let k = l.there in
        goes b P.extents w (P.rank - a) a d v (cond b (start_of Z A) v) (omega (arith, k)) (goal-at j g b i)
        ∙ ap (λ (x : List ℕ). record { more = true; counters = x }) (set-set at.counters a (A + j * y.by) v)

    next_on : next_of P.rank P.extents w d ≡ goal
    next_on = go y.inside refl
      where
        go : (b : Bool) → y.inside ≡ b → next_of P.rank P.extents w d ≡ goal
        go true i = next_inside j i (carried true i)
        go false i = whole-axes j i ∙ carried false i

  -- the move there
  pub moved_on_lem : (j : ℕ) → j < left_of (Some y) P w at.counters
      → OnTo (Some y) j P w at (state_of (set at.tile_starts y.axis (cond y.inside (start_of Z A) (A + j * y.by))) (onward (Some y) at.counters j) (shifted P y.axis A (A + j * y.by) at.offsets))
  moved_on_lem j g = axis-moved (A + j * y.by) (cond y.inside (start_of Z A) (A + j * y.by)) (below j g) (start_at_lem j g)

  -- what `go_steps` asks
  pub may_go : (j : ℕ) → j < left_of (Some y) P w at.counters → E < 2 ^ 64 → MayGo y j P at
  may_go j g f = record {
    fits = λ p. let b = below j g in omega (arith, b, f);
    moves = λ p. roomy_shifts P at r a (A + j * y.by) l.there (below j g);
  }

  -- and what it leaves
  pub gone_on : (j : ℕ) → j < left_of (Some y) P w at.counters → {at' : State} → Gone y j P at at' → OnTo (Some y) j P w at at'
  gone_on zero g {at'} k = subst (λ (x : State). OnTo (Some y) 0 P w at x) (λ i. state_of (sym k.starts i) (sym k.counters i) (sym k.offsets i)) (unmoved_on (Some y) m.strides)
  gone_on (suc j) g {at'} k =
      let x : set at.tile_starts y.axis (cond y.inside (start_of Z A) (A + suc j * y.by)) ≡ cond y.inside at.tile_starts (set at.tile_starts y.axis (A + suc j * y.by)) = go y.inside in
      let n : eqb (suc j) 0 ≡ false = ne_eqb (suc j) 0 (λ z. not_none z) in
      let f : at'.tile_starts ≡ cond y.inside at.tile_starts (set at.tile_starts y.axis (A + suc j * y.by)) = k.starts ∙ rw n in
      let u : at'.counters ≡ onward (Some y) at.counters (suc j) = k.counters ∙ rw n in
      let z : at'.offsets ≡ shifted P y.axis A (A + suc j * y.by) at.offsets = k.offsets ∙ rw n in
      subst (λ (v : State). OnTo (Some y) (suc j) P w at v) (λ i. state_of ((x ∙ sym f) i) (sym u i) (sym z i)) (moved_on_lem (suc j) g)
    where
      not_none : suc j ≡ 0 → ⊥
      not_none z = omega arith

      go : (b : Bool) → set at.tile_starts y.axis (cond b (start_of Z A) (A + suc j * y.by)) ≡ cond b at.tile_starts (set at.tile_starts y.axis (A + suc j * y.by))
      go true = ap (set at.tile_starts y.axis) (sym left_asks.start) ∙ set-get_or at.tile_starts y.axis 0
      go false = refl

  step_on : (j : ℕ) → suc j < left_of (Some y) P w at.counters → {at₁ at₂ : State} → OnTo (Some y) j P w at at₁ → OnTo (Some y) (suc j) P w at at₂ → AdvancedTo P w at₁ true at₂
  step_on j g {at₁} m n = moved-from m n (ap (next_of P.rank P.extents w) m.counters ∙ next_on j g)

  length_on : (j : ℕ) → j < left_of (Some y) P w at.counters → length_of P w (onward (Some y) at.counters j) ≡ length_of P w at.counters
  unfolding length_by
  length_on zero g = ap (length_of P w) (on_none (Some y) at.counters)
  length_on (suc j) g =
      by_lt 0 a
      (λ p. ap (λ (n : ℕ). cond (eqb P.rank 0) 1 (cond (ltb (get_or w 0 0) (get_or P.extents 0 0 - n)) (get_or w 0 0) (get_or P.extents 0 0 - n))) (get_or-set_other at.counters a 0 (A + suc j * y.by) 0 (let z : (0 ≡ a → ⊥) = omega (arith, p) in z)))
      (λ p. go (let z : a ≡ 0 = omega (arith, p) in z) y.inside refl)
    where
      go : a ≡ 0 → (b : Bool) → y.inside ≡ b → length_of P w (onward (Some y) at.counters (suc j)) ≡ length_of P w at.counters
      go z true i = absurd (let k = l.inner_axis i in let u : ⊥ = omega (arith, k, z) in u)
      go z false i =
          let n : ℕ = A + suc j * y.by in
          let x : suc j * y.by ≡ suc j * Z = ap (λ (u : ℕ). suc j * u) (l.tile_by i) in
          let f = tiles-fit E Z A (suc j) wide (omega arith) (subst (λ (m : ℕ). suc j < m) (left_tile y E Z A i) g) in
          let u : suc (suc j) * Z ≡ suc j * Z + Z = suc-mul (suc j) Z in
          let later : Z ≤ E - n = omega (arith, f, u, x) in
          let here : Z ≤ E - A = omega (arith, f, u) in
          let k : get_or (onward (Some y) at.counters (suc j)) a 0 ≡ n = get_or-set_same at.counters a n 0 long in
          let p : length_of P w (onward (Some y) at.counters (suc j)) ≡ cond (eqb P.rank 0) 1 Z =
          subst (λ (m : ℕ). cond (eqb P.rank 0) 1 (cond (ltb (get_or w m 0) (get_or P.extents m 0 - get_or (onward (Some y) at.counters (suc j)) m 0)) (get_or w m 0) (get_or P.extents m 0 - get_or (onward (Some y) at.counters (suc j)) m 0)) ≡ cond (eqb P.rank 0) 1 Z) z
          (ap (λ (m : ℕ). cond (eqb P.rank 0) 1 (cond (ltb Z (E - m)) Z (E - m))) k ∙ ap (cond (eqb P.rank 0) 1) (full_length Z (E - n) later)) in
          let q : length_of P w at.counters ≡ cond (eqb P.rank 0) 1 Z =
          subst (λ (m : ℕ). cond (eqb P.rank 0) 1 (cond (ltb (get_or w m 0) (get_or P.extents m 0 - get_or at.counters m 0)) (get_or w m 0) (get_or P.extents m 0 - get_or at.counters m 0)) ≡ cond (eqb P.rank 0) 1 Z) z
          (ap (cond (eqb P.rank 0) 1) (full_length Z (E - A) here)) in
          p ∙ sym q

  -- what `go_behind` makes of its callees' answers
  module _ {left : ℕ} (left_is : left ≡ left_of (Some y) P w at.counters) where
    pub last_less : left - 1 < left_of (Some y) P w at.counters
    last_less = let p = some_on in omega (arith, p, left_is)

    pub left_above : 0 < left
    left_above = let p = some_on in omega (arith, p, left_is)

    -- what `ends_axis` asks and tells
    pub end_below : A + (left - 1) * y.by ≤ E
    end_below = let f = below (left - 1) last_less in omega (arith, f)

    pub at_end : (y.inside ≡ false → E - (A + (left - 1) * y.by) ≤ y.by) → AtEnd y E Z A
    at_end f i =
        subst (λ (n : ℕ). E - (A + (n - 1) * y.by) ≤ Z) left_is (subst (λ (v : ℕ). E - (A + (left - 1) * y.by) ≤ v) (l.tile_by i) (f i))

    pub limit_less : (limit : ℕ) → limit < left → limit < left_of (Some y) P w at.counters
    limit_less limit h = omega (arith, h, left_is)

    pub gone_last : {at₁ : State} → Gone y (left - 1) P at at₁ → {more : Bool} {at₂ : State} → AdvancedTo P w at₁ more at₂ → Leaves (Some y) P w at more at₂
    gone_last {at₁} k m = record {
      there = at₁;
      last = subst (λ (n : ℕ). OnTo (Some y) (n - 1) P w at at₁) left_is (gone_on (left - 1) last_less k);
      then = m;
    }

    pub passed_short : (limit : ℕ) → limit < left → {at₁ : State} → Gone y limit P at at₁ → Passed (Some y) limit P w at true at₁
    passed_short limit h k = record {
      short = λ g. (refl, gone_on limit (limit_less limit h) k);
      all = λ g. absurd (let z : ⊥ = omega (arith, g, h, left_is) in z);
    }

    pub passed_all : (limit : ℕ) → left ≤ limit → {more : Bool} {at₂ : State} → Leaves (Some y) P w at more at₂ → Passed (Some y) limit P w at more at₂
    passed_all limit h m = record {
      short = λ g. absurd (let z : ⊥ = omega (arith, g, h, left_is) in z);
      all = λ g. m;
    }

-- where there is none, a stretch is one block
module _ {P : Plan} {w : List ℕ} {at : State} (k : Strides P w at) where
  pub passed_none : Passed None 0 P w at true at
  passed_none = record { short = λ g. (refl, unmoved_on None k); all = λ g. absurd (let z : ⊥ = omega (arith, g) in z) }

  pub passed_one : (limit : ℕ) → 0 < limit → {more : Bool} {at' : State} → AdvancedTo P w at more at' → Passed None limit P w at more at'
  passed_one limit h n = record { short = λ g. absurd (let z : ⊥ = omega (arith, g, h) in z); all = λ g. record { there = at; last = unmoved_on None k; then = n } }

-- ---- a stretch, whether there is a way or none

pub some_left : (y : Option Way) {P : Plan} {w : List ℕ} {at : State} → Striding y P w at → 0 < left_of y P w at.counters
some_left None m = omega arith
some_left (Some y) m = some_on m

-- ONE BLOCK ON is one step of the walk
pub on_step : (y : Option Way) {P : Plan} {w : List ℕ} {at : State} → Striding y P w at → (j : ℕ) → suc j < left_of y P w at.counters
    → {at₁ at₂ : State} → OnTo y j P w at at₁ → OnTo y (suc j) P w at at₂ → AdvancedTo P w at₁ true at₂
on_step None m j g a b = absurd (let z : ⊥ = omega (arith, g) in z)
on_step (Some y) m j g a b = step_on m j g a b

-- there is such a move for each block of the stretch
pub record There (y : Option Way) (P : Plan) (w : List ℕ) (at : State) (j : ℕ) : Type 0 where
  pub stands : State
  pub moved : OnTo y j P w at stands

pub moved-there : (y : Option Way) {P : Plan} {w : List ℕ} {at : State} → Striding y P w at → (j : ℕ) → j < left_of y P w at.counters → There y P w at j
moved-there None {at = at} m zero g = record { stands = at; moved = unmoved_on None m.strides }
moved-there None m (suc j) g = absurd (let z : ⊥ = omega (arith, g) in z)
moved-there (Some y) m j g = record { stands = _; moved = moved_on_lem m j g }

-- every block has the same length
pub on_length : (y : Option Way) {P : Plan} {w : List ℕ} {at : State} → Striding y P w at → (j : ℕ) → j < left_of y P w at.counters → length_of P w (onward y at.counters j) ≡ length_of P w at.counters
on_length None m j g = refl
on_length (Some y) m j g = length_on m j g

-- what `stretch_here` asks
pub may_tell : {y : Option Way} {P : Plan} {w : List ℕ} {at : State} → Striding y P w at → MayTell y P w at
may_tell m = record { first = λ p. m.strides.roomy.within 0 p; there = λ v e. stands_on m.strides.roomy m.strides.tiled v.axis (m.leads.along v e).there }

-- a stretch that was looked at, and that the walk went past, was handed out
pub strode_of : {y : Option Way} {limit : ℕ} {P : Plan} {w : List ℕ} {at : State} {left len count : ℕ} → left ≡ left_of y P w at.counters → len ≡ length_of P w at.counters → count ≡ min limit left
    → {first : List ℤ} → first ≡ at.offsets → {more : Bool} {at' : State} → Passed y limit P w at more at' → Strode y limit P w at (record { count = count; length = len; more = more }) first at'
strode_of {limit = limit} a b n f p = record { count = n ∙ ap (λ (i : ℕ). min limit i) a; length = b; offsets = f; short = p.short; all = p.all }
