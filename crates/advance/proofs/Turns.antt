-- Laws of a carry: what holds before each turn of its loop, and what a turn and the end make of it.
-- Assumes nothing.
use mathlib.Core.Path.{◌≡◌, refl, sym, ap, ap₂, ◌∙◌, subst}
use mathlib.Core.Bool.{Bool, true, false, cond, false≢true}
use mathlib.Core.List.{List}
use Prim.Native.Nat.{ℕ, zero, suc, ◌+◌, ◌-◌, ◌≤◌, ◌<◌}
use native.Mathlib.Numerals.{add-one}
use native.Mathlib.Omega.{arith}
use lib.IntN.{ℤ, pos}
use lib.ListN.{length, get_or, set, length-set}
use lib.Seq.{get_or-set_same, get_or-set_other, set-get_or}
use borrow.Author.Tests.{le-ltb}
use Rattle.strided.specs.declared.Plan.{Plan}
use Rattle.advance.specs.declared.place.Goal.{Goal}
use Rattle.advance.specs.declared.place.Place.{Place}
use Rattle.advance.specs.declared.State.{State}
use Rattle.advance.specs.Axis.{start_of, back, inside_goal, goal_of}
use Rattle.advance.specs.Moves.{shifted, moved_at, Shifts}
use Rattle.advance.specs.Arrays.{SingleTo}
use Rattle.advance.specs.Carry.{Carried, carry_of, start_at, next_of, state_of, Standing, PlaceOn, Roomy, Tiled, Single, CarriedTo, WentAhead, AdvancedTo}
use Rattle.advance.specs.Filled.{by_lt, filled_above}
use Rattle.advance.proofs.Axis.{start_one, Lands, goal_lands}
use Rattle.advance.proofs.Dot.{roomy_shifts, roomy_moved, start_stays}

-- a counter and its tile's start are set together
pub tiled_set : (p : Plan) (w : List ℕ) (at : State) → length at.counters ≡ 64 → p.rank ≤ 64 → Tiled p w at → (i v s : ℕ) (o : List ℤ) → i < p.rank → s ≡ start_of (get_or w i 0) v
    → Tiled p w (state_of (set at.tile_starts i s) (set at.counters i v) o)
tiled_set p w at lc a d i v s o h e =
    record {
      placed = length-set at.tile_starts i s ∙ d.placed;
      wide = d.wide;
      start = λ j l. by_lt j i (λ q. other j l (let g : (j ≡ i → ⊥) = omega arith in g)) (λ q. by_lt i j (λ r. other j l (let g : (j ≡ i → ⊥) = omega arith in g)) (λ r. here j (let g : i ≡ j = omega arith in g)));
    }
  where
    c : List ℕ
    c = at.counters

    t : List ℕ
    t = at.tile_starts

    other : (j : ℕ) → j < p.rank → (j ≡ i → ⊥) → get_or (set t i s) j 0 ≡ start_of (get_or w j 0) (get_or (set c i v) j 0)
    other j l ne = get_or-set_other t i j s 0 ne ∙ d.start j l ∙ ap (start_of (get_or w j 0)) (sym (get_or-set_other c i j v 0 ne))

    here_at : get_or (set t i s) i 0 ≡ start_of (get_or w i 0) (get_or (set c i v) i 0)
    here_at =
        get_or-set_same t i s 0 (omega (arith, d.placed, a, h)) ∙ e
        ∙ ap (start_of (get_or w i 0)) (sym (get_or-set_same c i v 0 (omega (arith, lc, a, h))))

    here : (j : ℕ) → i ≡ j → get_or (set t i s) j 0 ≡ start_of (get_or w j 0) (get_or (set c i v) j 0)
    here j q = subst (λ (k : ℕ). get_or (set t i s) k 0 ≡ start_of (get_or w k 0) (get_or (set c i v) k 0)) q here_at

-- what `place` asks of an axis
pub stands_on : {p : Plan} {w : List ℕ} {at : State} → Roomy p at → Tiled p w at → (i : ℕ) → i < p.rank → Standing p w i at
stands_on r d i h = record { wide = d.wide i h; within = r.within i h; start = d.start i h }

module _ (inside : Bool) (first last : ℕ) (p : Plan) (w : List ℕ) (at₀ : State) where
  abbrev goal_at : ℕ → List ℕ → Goal
  goal_at i c = goal_of inside (get_or p.extents i 0) (get_or w i 0) (get_or c i 0)

  -- before a turn: the offsets have room, the starts are as they were, and the carry that is left gives what the whole one does
  pub record Before (i : ℕ) (at : State) : Type 0 where
    pub roomy : Roomy p at
    pub tiled : Tiled p w at
    pub starts : (k : ℕ) → k < p.operands → start_at p k at.counters at.offsets ≡ start_at p k at₀.counters at₀.offsets
    pub others : (k : ℕ) → p.operands ≤ k → get_or at.offsets k (pos 0) ≡ get_or at₀.offsets k (pos 0)
    pub same : carry_of inside p.extents w (last - i) i at.counters ≡ carry_of inside p.extents w (last - first) first at₀.counters

  pub begins : Roomy p at₀ → Tiled p w at₀ → Before first at₀
  begins r d = record { roomy = r; tiled = d; starts = λ k h. refl; others = λ k h. refl; same = refl }

  module _ (i : ℕ) (at : State) (b : Before i at) where
    -- the loop is left at the last axis
    pub ends : last ≤ i → CarriedTo inside first last p w at₀ false at
    unfolding carry_of
    ends h =
        let z : carry_of inside p.extents w (last - i) i at.counters ≡ carry_of inside p.extents w 0 i at.counters = ap (λ (n : ℕ). carry_of inside p.extents w n i at.counters) (let g : last - i ≡ 0 = omega arith in g) in
        record {
          answer = ap (λ (x : Carried). x.more) (sym z ∙ b.same);
          counters = ap (λ (x : Carried). x.counters) (sym z ∙ b.same);
          roomy = b.roomy;
          tiled = b.tiled;
          starts = b.starts;
          others = b.others;
        }

    module _ (most : last ≤ p.rank) (here : i < last) where
      turn : i < p.rank
      turn = omega arith

      lands : Lands (get_or p.extents i 0) (get_or w i 0) (goal_at i at.counters)
      lands = goal_lands (get_or p.extents i 0) (get_or w i 0) (get_or at.counters i 0) (b.tiled.wide i turn) (b.roomy.within i turn) inside

      module _ (a : Goal) (is-goal : a ≡ goal_at i at.counters) where
        lands_at : Lands (get_or p.extents i 0) (get_or w i 0) a
        lands_at = subst (Lands (get_or p.extents i 0) (get_or w i 0)) (sym is-goal) lands

        shifts_at : Shifts p i (get_or at.counters i 0) a.to at.offsets
        shifts_at = roomy_shifts p at b.roomy i a.to turn lands_at.below

        abbrev o' : List ℤ
        o' = shifted p i (get_or at.counters i 0) a.to at.offsets

        -- the state after the turn, with these offsets
        abbrev at' : List ℤ → State
        at' l = state_of (set at.tile_starts i a.start) (set at.counters i a.to) l

        left : last - i ≡ suc (last - (i + 1))
        left = omega arith

        -- what the carry that is left gives, by what the axis aims at
        carry_more : (m : Bool) → a.more ≡ m
            → cond m (record { more = true; counters = set at.counters i a.to }) (carry_of inside p.extents w (last - (i + 1)) (suc i) (set at.counters i a.to)) ≡ carry_of inside p.extents w (last - i) i at.counters
        unfolding carry_of
        carry_more m h = rw (left, sym is-goal, h)

        tiled_at : Tiled p w (at' o')
        tiled_at = tiled_set p w at b.roomy.counted b.roomy.axes b.tiled i a.to a.start o' turn lands_at.start

        starts' : (k : ℕ) → k < p.operands → start_at p k (set at.counters i a.to) o' ≡ start_at p k at₀.counters at₀.offsets
        starts' k h = start_stays p at b.roomy i a.to turn lands_at.below k h ∙ b.starts k h

        others' : (k : ℕ) → p.operands ≤ k → get_or o' k (pos 0) ≡ get_or at₀.offsets k (pos 0)
        others' k h = filled_above at.offsets (moved_at i (get_or at.counters i 0) a.to p.strides at.offsets) (pos 0) p.operands k h ∙ b.others k h

        roomy' : Roomy p (at' o')
        roomy' = roomy_moved p at b.roomy i a.to turn lands_at.below (set at.tile_starts i a.start)

        module _ (l : List ℤ) (is-shifted : l ≡ o') where
          stops_at : a.more ≡ true → CarriedTo inside first last p w at₀ true (at' l)
          stops_at h =
              let z : record { more = true; counters = set at.counters i a.to } ≡ carry_of inside p.extents w (last - first) first at₀.counters = carry_more true h ∙ b.same in
              subst (λ (m : List ℤ). CarriedTo inside first last p w at₀ true (at' m)) (sym is-shifted)
              (record {
                answer = ap (λ (x : Carried). x.more) z;
                counters = ap (λ (x : Carried). x.counters) z;
                roomy = roomy';
                tiled = tiled_at;
                starts = starts';
                others = others';
              })

          goes_on_at : a.more ≡ false → Before (i + 1) (at' l)
          goes_on_at h =
              subst (λ (m : List ℤ). Before (i + 1) (at' m)) (sym is-shifted)
              (record {
                roomy = roomy';
                tiled = tiled_at;
                starts = starts';
                others = others';
                same =
                    ap (λ (n : ℕ). carry_of inside p.extents w (last - (i + 1)) n (set at.counters i a.to)) (add-one i) ∙ carry_more false h ∙ b.same;
              })

      -- as the code has it: the axis aims from the place where it stands
      module _ {x : Place} (on : PlaceOn p w i at.counters x) {a : Goal} (is-aim : a ≡ goal_of inside x.extent x.width x.at) where
        aim : a ≡ goal_at i at.counters
        aim = is-aim ∙ (λ j. goal_of inside (on.extent j) (on.width j) (on.here j))

        -- what `shift` asks
        pub shifts_on : Shifts p i x.at a.to at.offsets
        shifts_on = subst (λ (n : ℕ). Shifts p i n a.to at.offsets) (sym on.here) (shifts_at a aim)

        module _ {l : List ℤ} (is-shifted : l ≡ shifted p i x.at a.to at.offsets) where
          there : l ≡ shifted p i (get_or at.counters i 0) a.to at.offsets
          there = is-shifted ∙ ap (λ (n : ℕ). shifted p i n a.to at.offsets) on.here

          pub stops_on : a.more ≡ true → CarriedTo inside first last p w at₀ true (state_of (set at.tile_starts i a.start) (set at.counters i a.to) l)
          stops_on = stops_at a aim l there

          pub goes_on : a.more ≡ false → Before (i + 1) (state_of (set at.tile_starts i a.start) (set at.counters i a.to) l)
          goes_on = goes_on_at a aim l there

-- ---- one axis alone

module _ {axis : ℕ} {p : Plan} {w : List ℕ} {at : State} (r : Roomy p at) (d : Tiled p w at) (h : axis < p.rank)
    {x : Place} (on : PlaceOn p w axis at.counters x) {a : Goal} (is-goal : a ≡ inside_goal x.extent x.width x.at) where
  aims : a ≡ goal_of true x.extent x.width x.at
  unfolding goal_of
  aims = is-goal

  -- what `shift` asks
  pub shifts_ahead : Shifts p axis x.at a.to at.offsets
  shifts_ahead = shifts_on true axis (axis + 1) p w at axis at (begins true axis (axis + 1) p w at r d) (omega (arith, h)) (omega arith) on aims

  pub went_ahead : {l : List ℤ} → l ≡ shifted p axis x.at a.to at.offsets → a.more ≡ true
      → WentAhead axis p w at true (state_of (set at.tile_starts axis a.start) (set at.counters axis a.to) l)
  went_ahead {l} f g = record {
    ahead = λ q last m n. stops_on true axis last p w at axis at (begins true axis last p w at r d) n m on aims f g;
    kept = λ q. absurd (false≢true (sym q));
  }

pub stayed : {axis : ℕ} {p : Plan} {w : List ℕ} {at : State} → WentAhead axis p w at false at
stayed = record { ahead = λ q. absurd (false≢true q); kept = λ q. refl }

-- ---- axes that do not move inside a tile

still-goal : (extent at : ℕ) → goal_of true extent 1 at ≡ back at
unfolding goal_of inside_goal
still-goal extent at = rw (start_one at, le-ltb (at - at) (1 - 1) (omega arith))

-- a carry passes over axes that aim at where they are
pub passed : (inside : Bool) (e w : List ℕ) (m n i : ℕ) (c : List ℕ) → ((j : ℕ) → i ≤ j → j < i + m → goal_of inside (get_or e j 0) (get_or w j 0) (get_or c j 0) ≡ back (get_or c j 0))
    → carry_of inside e w (m + n) i c ≡ carry_of inside e w n (i + m) c
unfolding carry_of
passed inside e w zero n i c h = let a : 0 + n ≡ n = omega arith in let b : i ≡ i + 0 = omega arith in ap₂ (λ (x y : ℕ). carry_of inside e w x y c) a b
passed inside e w (suc m) n i c h =
    let z : suc m + n ≡ suc (m + n) = omega arith in
    let b : suc i + m ≡ i + suc m = omega arith in
    rw (z, h i (omega arith) (omega arith), set-get_or c i 0)
    (passed inside e w m n (suc i) c (λ j p q. h j (omega arith) (omega arith)) ∙ ap (λ (x : ℕ). carry_of inside e w n x c) b)

module _ (e w : List ℕ) where
  -- inside a tile, over axes whose blocks are 1
  pub passed_single : (m n i : ℕ) (c : List ℕ) → ((j : ℕ) → i ≤ j → j < i + m → get_or w j 0 ≡ 1) → carry_of true e w (m + n) i c ≡ carry_of true e w n (i + m) c
  passed_single m n i c h =
      passed true e w m n i c (λ j p q. ap (λ (v : ℕ). goal_of true (get_or e j 0) v (get_or c j 0)) (h j p q) ∙ still-goal (get_or e j 0) (get_or c j 0))

  pub inner_only : (m n i : ℕ) (c : List ℕ) → ((j : ℕ) → i + m ≤ j → j < i + m + n → get_or w j 0 ≡ 1) → carry_of true e w m i c ≡ carry_of true e w (m + n) i c
  unfolding carry_of
  inner_only zero n i c h =
      let z : 0 + n ≡ n + 0 = omega arith in
      sym (ap (λ (k : ℕ). carry_of true e w k i c) z ∙ passed_single n 0 i c (λ j p q. h j (omega arith) (omega arith)))
  inner_only (suc m) n i c h =
      let z : suc m + n ≡ suc (m + n) = omega arith in
      let a : Goal = goal_of true (get_or e i 0) (get_or w i 0) (get_or c i 0) in
      rw z (ap (λ (r : Carried). cond a.more (record { more = true; counters = set c i a.to }) r)
      (inner_only m n (suc i) (set c i a.to) (λ j p q. h j (omega arith) (omega arith))))

  -- a carry inside a tile over the axes before n is one over all
  inner-all : (n rank : ℕ) (c : List ℕ) → n ≤ rank → ((i : ℕ) → n ≤ i → i < rank → get_or w i 0 ≡ 1) → carry_of true e w (n - 1) 1 c ≡ carry_of true e w (rank - 1) 1 c
  inner-all n zero c most one = let z : n - 1 ≡ 0 - 1 = omega arith in ap (λ (k : ℕ). carry_of true e w k 1 c) z
  inner-all n (suc rank) c most one =
      let z : (n - 1) + (suc rank - 1 - (n - 1)) ≡ suc rank - 1 = omega arith in
      inner_only (n - 1) (suc rank - 1 - (n - 1)) 1 c (λ j p q. one j (omega arith) (omega arith))
      ∙ ap (λ (k : ℕ). carry_of true e w k 1 c) z

-- of a plan this reads the rank alone
pub single_on : (p : Plan) {n : ℕ} {w : List ℕ} → SingleTo n p.rank w → Single n p w
single_on p s = record { most = s.most; one = s.one }

-- ---- the next block

module _ {p : Plan} {w : List ℕ} {at : State} {m : Bool} {at' : State} {inner : ℕ} (u : Single inner p w) (d : CarriedTo true 1 inner p w at m at') where
  abbrev X : Carried
  X = carry_of true p.extents w (p.rank - 1) 1 at.counters

  all : carry_of true p.extents w (inner - 1) 1 at.counters ≡ X
  all = inner-all p.extents w inner p.rank at.counters u.most u.one

  answer : m ≡ X.more
  answer = d.answer ∙ ap (λ (x : Carried). x.more) all

  counters : at'.counters ≡ X.counters
  counters = d.counters ∙ ap (λ (x : Carried). x.counters) all

  -- an axis went ahead inside the tile
  pub inside_done : m ≡ true → AdvancedTo p w at true at'
  unfolding next_of
  inside_done h =
      let z : next_of p.rank p.extents w at.counters ≡ X = ap (λ (b : Bool). cond b X (carry_of false p.extents w (p.rank - 0) 0 X.counters)) (sym answer ∙ h) in
      record {
        answer = sym h ∙ answer ∙ ap (λ (x : Carried). x.more) (sym z);
        counters = counters ∙ ap (λ (x : Carried). x.counters) (sym z);
        roomy = d.roomy;
        tiled = d.tiled;
        starts = d.starts;
        others = d.others;
      }

  -- none did: the carry goes from tile to tile
  pub tile_done : m ≡ false → {m'' : Bool} {at'' : State} → CarriedTo false 0 p.rank p w at' m'' at'' → AdvancedTo p w at m'' at''
  unfolding next_of
  tile_done h q =
      let z : next_of p.rank p.extents w at.counters ≡ carry_of false p.extents w (p.rank - 0) 0 at'.counters =
      ap (λ (b : Bool). cond b X (carry_of false p.extents w (p.rank - 0) 0 X.counters)) (sym answer ∙ h) ∙ ap (carry_of false p.extents w (p.rank - 0) 0) (sym counters) in
      record {
        answer = q.answer ∙ ap (λ (x : Carried). x.more) (sym z);
        counters = q.counters ∙ ap (λ (x : Carried). x.counters) (sym z);
        roomy = q.roomy;
        tiled = q.tiled;
        starts = λ k l. q.starts k l ∙ d.starts k l;
        others = λ k l. q.others k l ∙ d.others k l;
      }
