-- LEAVING A STRETCH: its axis goes home at once, not to the last block and back, and the axes behind it carry on.
-- Assumes nothing.
use mathlib.Core.Path.{◌≡◌, refl, sym, ap, ap₂, ◌∙◌, subst}
use mathlib.Core.Bool.{Bool, true, false, cond, false≢true}
use mathlib.Core.List.{List}
use Rattle.std.specs.Prelude.{Some}
use Prim.Native.Nat.{ℕ, zero, suc, ◌+◌, ◌-◌, ◌*◌, ◌≤◌, ◌<◌, min}
use native.Mathlib.Nat.{div-mul-le_self}
use native.Mathlib.Numerals.{add-one}
use native.Mathlib.Omega.{arith}
use lib.IntN.{ℤ}
use lib.ListN.{get_or, set}
use lib.Seq.{set-set, set-get_or}
use Rattle.advance.specs.Axis.{start_of, back, inside_goal, tile_goal, goal_of}
use Rattle.advance.specs.Moves.{Shifts, shifted}
use Rattle.advance.specs.Carry.{Carried, carry_of, next_of, state_of, Roomy, Tiled, Single, MovedTo, CarriedTo, WentAhead}
use Rattle.advance.proofs.Axis.{start_start, start_zero, start_tiles}
use Rattle.advance.proofs.Dot.{roomy_shifts, unmoved_plan}
use Rattle.advance.proofs.Turns.{inner_only}
use Rattle.strided.specs.declared.Plan.{Plan}
use Rattle.advance.specs.declared.State.{State}
use Rattle.walker.specs.declared.way.Way.{Way}
use Rattle.walker.specs.Way.{Along, left_of, onward, LeftFrom, AtEnd, Hopped}
use Rattle.walker.proofs.Ahead.{last_inside, last_tile, left_inside}
use Rattle.walker.proofs.Going.{Striding, then_moved, moved-from, axis-moved, inside-at, tile-at, next_inside, whole-axes, left_asks, some_left, stands, There, moved-there, passed_all}

-- where the axis goes when its blocks are done: to the start of the tile, or of the first one
abbrev home_of : Way → ℕ → ℕ → ℕ
home_of y w at = cond y.inside (start_of w at) 0

-- an axis that goes back, and those behind it
turn_back : (b : Bool) (e w : List ℕ) (m i : ℕ) (d : List ℕ) (v : ℕ) → 0 < m → goal_of b (get_or e i 0) (get_or w i 0) (get_or d i 0) ≡ back v
    → carry_of b e w m i d ≡ carry_of b e w (m - 1) (i + 1) (set d i v)
unfolding carry_of
turn_back b e w zero i d v p a = absurd (let z : ⊥ = omega arith in z)
turn_back b e w (suc m) i d v p a =
    let x : suc m - 1 ≡ m = omega arith in
    rw a (ap₂ (λ (n j : ℕ). carry_of b e w n j (set d i v)) (sym x) (sym (add-one i)))

module _ {y : Way} {P : Plan} {w : List ℕ} {at : State} (m : Striding (Some y) P w at) where
  abbrev l : Along y P w
  l = m.leads.along y refl

  abbrev r : Roomy P at
  r = m.strides.roomy

  abbrev q : Tiled P w at
  q = m.strides.tiled

  abbrev a : ℕ
  a = y.axis

  abbrev E : ℕ
  E = get_or P.extents y.axis 0

  abbrev Z : ℕ
  Z = get_or w y.axis 0

  abbrev A : ℕ
  A = get_or at.counters y.axis 0

  abbrev n : ℕ
  n = left_of (Some y) P w at.counters - 1

  abbrev d : List ℕ
  d = onward (Some y) at.counters n

  abbrev home : ℕ
  home = home_of y Z A

  home_below : home < E
  home_below = go y.inside (left_asks m).within (div-mul-le_self A Z)
    where
      go : (b : Bool) → A < E → start_of Z A ≤ A → cond b (start_of Z A) 0 < E
      go true p f = omega arith
      go false p f = omega arith

  home_start : home ≡ start_of Z home
  home_start = go y.inside
    where
      go : (b : Bool) → cond b (start_of Z A) 0 ≡ start_of Z (cond b (start_of Z A) 0)
      go true = sym (start_start Z A (left_asks m).wide)
      go false = sym (start_zero Z)

  -- what `shift` asks
  home_shifts : Shifts P y.axis A home at.offsets
  home_shifts = roomy_shifts P at r a home (l.there) home_below

  -- the state with the axis at home
  abbrev at* : State
  at* = state_of (set at.tile_starts y.axis home) (set at.counters y.axis home) (shifted P y.axis A home at.offsets)

  home-moved : MovedTo (record { more = true; counters = set at.counters y.axis home }) P w at true at*
  home-moved = axis-moved m home home home_below home_start

  module _ (g : AtEnd y E Z A) where
    goal_last : (b : Bool) → y.inside ≡ b → goal_of b E Z (get_or d a 0) ≡ back (cond b (start_of Z A) 0)
    unfolding goal_of
    goal_last true i =
        let k = left_inside y E Z A i in
        let p = some_left (Some y) m in
        let f : n + 1 ≡ min (Z - (A - start_of Z A)) (E - A) = (let z : n + 1 ≡ left_of (Some y) P w at.counters = omega (arith, p) in z) ∙ k in
        ap (inside_goal E Z) (inside-at m n i) ∙ last_inside E Z A n (left_asks m).wide (left_asks m).within f
    goal_last false i =
        let x : n * y.by ≡ n * Z = ap (λ (v : ℕ). n * v) (l.tile_by i) in
        let z = start_tiles Z A n (left_asks m).wide (stands m i) in
        ap (tile_goal E Z) (tile-at m n i) ∙ last_tile E Z (A + n * Z) (sym z) (subst (λ (v : ℕ). E - (A + v) ≤ Z) x (g i))

    back-home : (b : Bool) → y.inside ≡ b → carry_of b P.extents w (P.rank - a) a d ≡ carry_of b P.extents w (P.rank - (a + 1)) (a + 1) (set at.counters a (cond b (start_of Z A) 0))
    back-home b i =
        let k = l.there in
        let x : P.rank - a - 1 ≡ P.rank - (a + 1) = omega arith in
        turn_back b P.extents w (P.rank - a) a d (cond b (start_of Z A) 0) (omega (arith, k)) (goal_last b i)
        ∙ ap₂ (λ (m : ℕ) (f : List ℕ). carry_of b P.extents w m (a + 1) f) x (set-set at.counters a (A + n * y.by) (cond b (start_of Z A) 0))

    -- the moves that lead there from home lead there from the last block
    there : There (Some y) P w at n
    there = moved-there (Some y) m n (let p = some_left (Some y) m in let z : n < left_of (Some y) P w at.counters = omega (arith, p) in z)

    abbrev cl : List ℕ
    cl = there.stands.counters

    next-there : {X : Carried} → next_of P.rank P.extents w d ≡ X → next_of P.rank P.extents w cl ≡ X
    next-there f = ap (next_of P.rank P.extents w) there.moved.counters ∙ f

    left-from : {more : Bool} {at' : State} {X : Carried} → next_of P.rank P.extents w d ≡ X → MovedTo X P w at* more at' → LeftFrom (Some y) n P w at more at'
    left-from f m = record {
      there = there.stands;
      last = there.moved;
      then = moved-from there.moved (then_moved home-moved m) (next-there f);
    }

    -- an axis behind went ahead inside the tile; or none did, and the tiles carry on
    module _ {inner : ℕ} (u : Single inner P w) (i : y.inside ≡ true) {m₁ : Bool} {at₁ : State} (f : CarriedTo true (y.axis + 1) inner P w at* m₁ at₁) where
      abbrev X : Carried
      X = carry_of true P.extents w (inner - (a + 1)) (a + 1) at*.counters

      home_inside : home ≡ start_of Z A
      home_inside = ap (λ (b : Bool). cond b (start_of Z A) 0) i

      all : carry_of true P.extents w (P.rank - (a + 1)) (a + 1) (set at.counters a (start_of Z A)) ≡ X
      all =
          let p = u.most in
          let k = l.there in
          let n : ℕ = (P.rank - (a + 1)) - (inner - (a + 1)) in
          let z : (inner - (a + 1)) + n ≡ P.rank - (a + 1) = omega (arith, p) in
          ap (λ (v : ℕ). carry_of true P.extents w (P.rank - (a + 1)) (a + 1) (set at.counters a v)) (sym home_inside)
          ∙ sym (inner_only P.extents w (inner - (a + 1)) n (a + 1) at*.counters (λ j b g. u.one j (let x : inner ≤ j = omega (arith, b) in x) (let x : j < P.rank = omega (arith, g, p, k) in x))
          ∙ ap (λ (v : ℕ). carry_of true P.extents w v (a + 1) at*.counters) z)

      next_is : {b : Bool} → m₁ ≡ b → next_of P.rank P.extents w d ≡ cond b X (carry_of false P.extents w (P.rank - 0) 0 X.counters)
      next_is g = next_inside m n i (back-home true i ∙ all) ∙ ap (λ (b : Bool). cond b X (carry_of false P.extents w (P.rank - 0) 0 X.counters)) (sym f.answer ∙ g)

      leaves_inside : m₁ ≡ true → LeftFrom (Some y) n P w at true at₁
      leaves_inside g = left-from (next_is g) (subst (λ (b : Bool). MovedTo X P w at* b at₁) g f)

      leaves_tile : m₁ ≡ false → {m₂ : Bool} {at₂ : State} → CarriedTo false 0 P.rank P w at₁ m₂ at₂ → LeftFrom (Some y) n P w at m₂ at₂
      leaves_tile g v =
          left-from (next_is g ∙ ap (carry_of false P.extents w (P.rank - 0) 0) (sym f.counters)) (then_moved f v)

    -- the tiles of the axes behind carry on
    leaves-whole : y.inside ≡ false → {more : Bool} {at' : State} → CarriedTo false (y.axis + 1) P.rank P w at* more at' → LeftFrom (Some y) n P w at more at'
    leaves-whole i f =
        left-from (whole-axes m n i ∙ back-home false i ∙ ap (λ (v : ℕ). carry_of false P.extents w (P.rank - (a + 1)) (a + 1) (set at.counters a v)) (sym (ap (λ (b : Bool). cond b (start_of Z A) 0) i))) f

  -- as the code has it: x is home, and so on
  module _ {x : ℕ} (x-is : x ≡ home) where
    pub shifts_there : Shifts P y.axis A x at.offsets
    shifts_there = subst (λ (v : ℕ). Shifts P y.axis A v at.offsets) (sym x-is) home_shifts

    module _ {u : List ℕ} (u-is : u ≡ set at.tile_starts y.axis x) {f : List ℤ} (f-is : f ≡ shifted P y.axis A x at.offsets) where
      -- the state as it stands then
      abbrev here : State
      here = state_of u (set at.counters y.axis x) f

      home-here : at* ≡ here
      home-here = λ i. state_of (sym (u-is ∙ ap (set at.tile_starts y.axis) x-is) i) (set at.counters y.axis (sym x-is i)) (sym (f-is ∙ ap (λ (v : ℕ). shifted P y.axis A v at.offsets) x-is) i)

      pub roomy_there : Roomy P here
      roomy_there = subst (Roomy P) home-here home-moved.roomy

      pub tiled_there : Tiled P w here
      tiled_there = subst (Tiled P w) home-here home-moved.tiled

      module _ (g : AtEnd y E Z A) where
        module _ {inner : ℕ} (v : Single inner P w) (i : y.inside ≡ true) {m₁ : Bool} {at₁ : State} (k : CarriedTo true (y.axis + 1) inner P w here m₁ at₁) where
          k* : CarriedTo true (y.axis + 1) inner P w at* m₁ at₁
          k* = subst (λ (v : State). CarriedTo true (y.axis + 1) inner P w v m₁ at₁) (sym home-here) k

          pub left_inside_at : m₁ ≡ true → LeftFrom (Some y) n P w at true at₁
          left_inside_at = leaves_inside g v i k*

          pub left_tile_at : m₁ ≡ false → {m₂ : Bool} {at₂ : State} → CarriedTo false 0 P.rank P w at₁ m₂ at₂ → LeftFrom (Some y) n P w at m₂ at₂
          left_tile_at = leaves_tile g v i k*

        pub left-whole-at : y.inside ≡ false → {more : Bool} {at' : State} → CarriedTo false (y.axis + 1) P.rank P w here more at' → LeftFrom (Some y) n P w at more at'
        left-whole-at i {more} {at'} v = leaves-whole g i (subst (λ (x : State). CarriedTo false (y.axis + 1) P.rank P w x more at') (sym home-here) v)

  pub home_tile : y.inside ≡ true → get_or at.tile_starts y.axis 0 ≡ home
  home_tile i = (left_asks m).start ∙ sym (ap (λ (b : Bool). cond b (start_of Z A) 0) i)

  pub home-zero : y.inside ≡ false → 0 ≡ home
  home-zero i = sym (ap (λ (b : Bool). cond b (start_of Z A) 0) i)

  -- what is set to what it was
  pub start_same : at.tile_starts ≡ set at.tile_starts y.axis (get_or at.tile_starts y.axis 0)
  start_same = sym (set-get_or at.tile_starts y.axis 0)

  -- A HOP: the stretch began with its tile, so that its axis is at home, and the next axis goes ahead inside the tile
  pub left-ahead : {inner : ℕ} → Single inner P w → y.inside ≡ true → get_or at.counters y.axis 0 ≡ get_or at.tile_starts y.axis 0 → y.axis + 1 < inner
      → {b : Bool} {at' : State} → WentAhead (y.axis + 1) P w at b at' → b ≡ true → LeftFrom (Some y) n P w at true at'
  left-ahead {inner} u i z g {b} {at'} f h =
      let same : set at.counters y.axis (get_or at.tile_starts y.axis 0) ≡ at.counters = ap (set at.counters y.axis) (sym z) ∙ set-get_or at.counters y.axis 0 in
      let k : CarriedTo true (y.axis + 1) inner P w (state_of at.tile_starts (set at.counters y.axis (get_or at.tile_starts y.axis 0)) at.offsets) true at' =
      subst (λ (v : List ℕ). CarriedTo true (y.axis + 1) inner P w (state_of at.tile_starts v at.offsets) true at') (sym same) (f.ahead h inner g u.most) in
      left_inside_at (home_tile i) start_same (unmoved_plan P y.axis A (get_or at.tile_starts y.axis 0) at.offsets z) (λ v. absurd (false≢true (sym v ∙ i))) u i k refl

-- what `hop` leaves, by the way it went
pub hopped : {y : Way} {limit : ℕ} {P : Plan} {w : List ℕ} {at : State} (m : Striding (Some y) P w at) {inner : ℕ} → Single inner P w → {left : ℕ} → left ≡ left_of (Some y) P w at.counters
    → y.inside ≡ true → left ≤ limit → get_or at.counters y.axis 0 ≡ get_or at.tile_starts y.axis 0 → y.axis + 1 < inner
    → {b : Bool} {at' : State} → WentAhead (y.axis + 1) P w at b at' → Hopped (Some y) limit P w at b at'
hopped {limit = limit} m u a i g z k f = record { past = λ b. passed_all m a limit g (left-ahead m u i z k f b); kept = f.kept }
