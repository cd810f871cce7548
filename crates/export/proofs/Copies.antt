-- A plan's walk while its stretches are copied: what is left of the cells, and what a stretch asks.
-- Assumes nothing.
use mathlib.Core.Path.{◌≡◌, refl, sym, ap, ◌∙◌, subst}
use mathlib.Core.Bool.{Bool, true, false}
use mathlib.Core.List.{List, [], ◌∷◌, ◌++◌, map}
use mathlib.Core.Logic.{inr}
use Prim.Native.Nat.{ℕ, zero, suc, ◌+◌, ◌/◌, ◌^◌, ◌≤◌, ◌<◌}
use native.Mathlib.Omega.{arith}
use lib.IntN.{ℤ, pos, ◌+ℤ◌, ◌*ℤ◌}
use lib.ListN.{length, get_or, take, drop}
use Rattle.strided.specs.Base.{over, run}
use Rattle.strided.specs.Walk.{counters, length_at}
use Rattle.strided.specs.Begin.{started}
use Rattle.strided.specs.Step.{plan_cut_axes}
use Rattle.strided.specs.Memory.{walk_of}
use Rattle.strided.specs.declared.Plan.{Plan}
use Rattle.strided.specs.declared.Walk.{Walk}
use Rattle.laws.specs.Base.Lists.{over-append, over-map}
use Rattle.laws.specs.Walk.Placed.{Placed, placed_from, placed_walk, placed-over}
use Rattle.laws.specs.Walk.Places.{length_pos}
use Rattle.laws.specs.Walk.Reach.{state-nth}
use Rattle.laws.specs.Walk.Steps.{Ready, ready_sized, wide}
use Rattle.advance.specs.Axis.{widths, starts_to}
use Rattle.advance.specs.Carry.{state_of}
use Rattle.advance.specs.declared.State.{State}
use Rattle.std.specs.Prelude.{Option}
use Rattle.walk.specs.Lent.{Taken}
use Rattle.walk.proofs.Stepping.{begun_taken, running}
use Rattle.walker.specs.declared.way.Way.{Way}
use Rattle.walker.specs.declared.Next.{Next}
use Rattle.walker.specs.Stretch.{Stretch, moved_on, block_in, laid, told}
use Rattle.walker.specs.Way.{Leads, moves_of, Strode}
use Rattle.walker.proofs.Walked.{Walking, walked_none, walked_some, walked_most, walked_fit, walking_next, walking_part, walking_over}
use Rattle.span.specs.Span.{in_cells}
use Rattle.cells.specs.Copy.{Pair, pair, copied, In}
use Rattle.cells.specs.Meaning.{copied-length, copied-append, apart_some}
use Rattle.cells.specs.Patches.{in_left, map_each, map_only, over_each, over_only, run_in_lem}
use Rattle.cells.specs.Offsets.{place_at}
use Rattle.export.proofs.Walks.{in_nth}
use Rattle.export.specs.Blocks.{along, offset_in, block_cells, walk_cells, offset_at, row_cells, stretch_cells, Stretching, Copyable}

-- ---- members of parts of a list

in_drop : {A : Type 0} (n : ℕ) (l : List A) (x : A) → In x (drop n l) → In x l
in_drop zero l x i = i
in_drop (suc n) [] x i = i
in_drop (suc n) (a ∷ l) x i = inr (in_drop n l x i)

-- ---- a stretch's blocks, as its arrays have them

moved_at_lem : (j m k : ℕ) (os ds : List ℤ) → k < m → m ≤ length os → m ≤ length ds → get_or (moved_on j (take m os) (take m ds)) k (pos 0) ≡ get_or os k (pos 0) +ℤ pos j *ℤ get_or ds k (pos 0)
moved_at_lem j zero k os ds h a b = absurd (let z : ⊥ = omega arith in z)
moved_at_lem j (suc m) k [] ds h a b = absurd (let z : ⊥ = omega arith in z)
moved_at_lem j (suc m) k (o ∷ os) [] h a b = absurd (let z : ⊥ = omega arith in z)
moved_at_lem j (suc m) zero (o ∷ os) (d ∷ ds) h a b = refl
moved_at_lem j (suc m) (suc k) (o ∷ os) (d ∷ ds) h a b = moved_at_lem j m k os ds (omega arith) (omega arith) (omega arith)

module _ (w m : ℕ) (ss d first : List ℤ) (r : Next) (two : m ≡ 2) (many : length d ≡ 8) (all : length first ≡ 8) where
  offset_at_lem : (k j i : ℕ) → k < 2 → offset_in ss (block_in (told m r first d) j) k i ≡ offset_at ss d first k j i
  offset_at_lem k j i h =
      ap (λ (o : ℤ). o +ℤ pos i *ℤ along ss k) (moved_at_lem j m k first d (let g : k < m = omega (arith, h, two) in g) (omega arith) (omega arith))

  cells_at : (j : ℕ) → block_cells w ss (block_in (told m r first d) j) ≡ row_cells w r.length ss d first j
  cells_at j =
      ap (λ (f : ℕ → Pair). map f (run 0 r.length))
      (λ x i. pair (place_at w (offset_at_lem 0 j i (omega arith) x)) (place_at w (offset_at_lem 1 j i (omega arith) x)))

  stretch-cells : over (laid (told m r first d)) (block_cells w ss) ≡ stretch_cells w r.length r.count ss d first
  unfolding stretch_cells
  stretch-cells =
      over-map (block_in (told m r first d)) (run 0 r.count) (block_cells w ss)
      ∙ ap (λ (f : ℕ → List Pair). over (run 0 r.count) f) (λ x j. cells_at j x)

-- ---- the walk's beginning

module _ {p : Plan} {zs : List ℤ} {w to from : ℕ} (h : Copyable p zs w to from) where
  pub copy_ready : Ready p zs
  copy_ready = ready_sized p zs h.sized.extents-all h.begins

-- ---- the walk before some block n: `now` is the destination, from which what is left makes what all of it makes from `old`

pub record Copies (p : Plan) (zs : List ℤ) (wd : ℕ) (y : Option Way) (w : List ℕ) (old src : List ℕ) (more : Bool) (at : State) (now : List ℕ) : Type 0 where
  pub n : ℕ
  pub walking : Walking p zs y w n more at
  pub long : length now ≡ length old
  pub left : copied wd (over (drop n (placed_walk p zs)) (block_cells wd p.strides)) now src ≡ copied wd (walk_cells wd p zs) old src

pub copies_while : {p : Plan} {zs : List ℤ} {wd : ℕ} {y : Option Way} {w old src : List ℕ} {more b : Bool} {at : State} {now : List ℕ}
    → Copies p zs wd y w old src more at now → more ≡ b → Copies p zs wd y w old src b at now
copies_while k e = rw e at k

-- at its beginning
module _ {p : Plan} {zs : List ℤ} {wd to from : ℕ} (h : Copyable p zs wd to from) (u : Walk) (is : u ≡ started p zs) where
  -- it has no block
  pub copies_none : u.ended ≡ true → (dst src : List ℕ) → dst ≡ copied wd (walk_cells wd p zs) dst src
  unfolding walk_cells copied
  copies_none e dst src =
      sym (ap (λ (l : List Placed). copied wd (over l (block_cells wd p.strides)) dst src) (placed-over p zs (copy_ready h) 0 (sym (ap (λ (v : Walk). v.ended) is) ∙ e)))

  -- it has one
  module _ (e : u.ended ≡ false) where
    running_is : walk_of false u.counters u.offsets ≡ started p zs
    running_is = sym (running u e) ∙ is

    pub first_taken : Taken p (walk_of false u.counters u.offsets)
    first_taken = subst (Taken p) (sym running_is) (begun_taken p zs (copy_ready h) h.sized)

    pub copies_start : {w : List ℕ} → w ≡ widths p → {y : Option Way} → Leads y p w
        → {t : List ℕ} → t ≡ starts_to w u.counters p.rank → (dst src : List ℕ) → Copies p zs wd y w dst src true (state_of t u.counters u.offsets) dst
    unfolding walk_cells
    copies_start ws l f dst src =
        record {
          n = 0;
          walking = record { ready = copy_ready h; first = walk_of false u.counters u.offsets; begins = running_is; walked = walked_none ws l first_taken f };
          long = refl;
          left = refl;
        }

-- while it runs
module _ {p : Plan} {zs : List ℤ} {wd : ℕ} {y : Option Way} {w old src : List ℕ} (h : Copyable p zs wd (length old) (length src)) {at : State} {now : List ℕ}
    (k : Copies p zs wd y w old src true at now) where
  abbrev n : ℕ
  n = k.n

  -- a stretch of it
  module _ {limit : ℕ} (some : 1 ≤ limit) (most : limit < 2 ^ 63) {r : Next} {first : List ℤ} {at' : State}
      (x : Strode y limit p w at r first at') {d : List ℤ} (d-is : d ≡ moves_of y p) where
    abbrev S : Stretch
    S = told p.operands r first d

    abbrev W : List Placed
    W = placed_walk p zs

    part : drop n W ≡ laid S ++ drop (n + r.count) W
    part = walking_part k.walking x d-is

    many : length d ≡ 8
    many = (walked_fit k.walking.walked x d-is).moves

    all : length first ≡ 8
    all = (walked_fit k.walking.walked x d-is).offered

    laid_in : (b : Placed) → In b (laid S) → In b W
    laid_in b i = in_drop n W b (subst (In b) (sym part) (in_left b (laid S) (drop (n + r.count) W) i))

    -- block j is one of the plan's
    block_of : (j : ℕ) → j < r.count → (e : List ℕ) × In e (counters (plan_cut_axes p)) × (block_in S j ≡ placed_from p zs e)
    block_of j l =
        map_only (placed_from p zs) (counters (plan_cut_axes p)) (block_in S j)
        (laid_in (block_in S j) (map_each (block_in S) (run 0 r.count) j (run_in_lem r.count 0 j (omega arith) (omega (arith, l)))))

    long_as : (j : ℕ) (l : j < r.count) → length_at (plan_cut_axes p) (block_of j l).0 ≡ r.length
    long_as j l = sym (ap (λ (b : Placed). b.length) (block_of j l).2)

    pub stretch_some : 1 ≤ r.count
    stretch_some = walked_some k.walking.walked x some

    cells_of : over (laid S) (block_cells wd p.strides) ≡ stretch_cells wd r.length r.count p.strides d first
    cells_of = stretch-cells wd p.operands p.strides d first r h.two many all

    pub stretching : Stretching wd (length now) (length src) r p.strides d first
    unfolding walk_cells
    stretching =
        let q = block_of 0 stretch_some in
        let e = long_as 0 stretch_some in
        let m = in_nth (counters (plan_cut_axes p)) q.0 q.1 in
        let z = length_pos (plan_cut_axes p) m.0 q.0 (wide p zs (copy_ready h)) (state-nth (plan_cut_axes p) (wide p zs (copy_ready h)) m.0 ∙ m.1) in
        let s = h.short q.0 q.1 in
        let b = walked_most k.walking.walked x in
        record {
          strides = h.sized.strides_all;
          moves = many;
          offered = all;
          one = omega (arith, e, z);
          row = omega (arith, stretch_some);
          cells = omega (arith, e, s);
          blocks = omega (arith, b, most);
          into = λ i j hi hj. into i j hi hj;
          out = λ i j hi hj. out i j hi hj;
          apart = apart_some wd (walk_cells wd p zs) (stretch_cells wd r.length r.count p.strides d first) among h.apart;
        }
      where
        into : (i j : ℕ) → i < r.length → j < r.count → in_cells (length now / wd) (offset_at p.strides d first 0 j i) ≡ true
        into i j hi hj =
            let q = block_of j hj in
            let e = long_as j hj in
            ap (λ (l : ℕ). in_cells (l / wd) (offset_at p.strides d first 0 j i)) k.long
            ∙ ap (in_cells (length old / wd)) (sym (offset_at_lem wd p.operands p.strides d first r h.two many all 0 j i (omega arith)) ∙ ap (λ (b : Placed). offset_in p.strides b 0 i) q.2)
            ∙ h.into q.0 q.1 i (omega (arith, e, hi))

        out : (i j : ℕ) → i < r.length → j < r.count → in_cells (length src / wd) (offset_at p.strides d first 1 j i) ≡ true
        out i j hi hj =
            let q = block_of j hj in
            let e = long_as j hj in
            ap (in_cells (length src / wd)) (sym (offset_at_lem wd p.operands p.strides d first r h.two many all 1 j i (omega arith)) ∙ ap (λ (b : Placed). offset_in p.strides b 1 i) q.2)
            ∙ h.out q.0 q.1 i (omega (arith, e, hi))

        among : (a : Pair) → In a (stretch_cells wd r.length r.count p.strides d first) → In a (walk_cells wd p zs)
        among a i =
            let q = over_only a (laid S) (block_cells wd p.strides) (subst (In a) (sym cells_of) i) in
            over_each a W (block_cells wd p.strides) q.0 (laid_in q.0 q.1) q.2

    -- it is copied, and the walk is behind it
    pub copies_next : {new : List ℕ} → new ≡ copied wd (stretch_cells wd r.length r.count p.strides d first) now src
        → Copies p zs wd y w old src r.more at' new
    copies_next {new} e =
        record {
          n = n + r.count;
          walking = walking_next k.walking x;
          long = ap length e ∙ copied-length wd (stretch_cells wd r.length r.count p.strides d first) now src ∙ k.long;
          left =
              ap (λ (v : List ℕ). copied wd rest v src) (e ∙ ap (λ (l : List Pair). copied wd l now src) (sym cells_of))
              ∙ sym (copied-append wd (over (laid S) (block_cells wd p.strides)) rest now src)
              ∙ ap (λ (l : List Pair). copied wd l now src) (sym (over-append (laid S) (drop (n + r.count) W) (block_cells wd p.strides)) ∙ ap (λ (l : List Placed). over l (block_cells wd p.strides)) (sym part))
              ∙ k.left;
        }
      where
        rest : List Pair
        rest = over (drop (n + r.count) W) (block_cells wd p.strides)

-- at its end nothing is left
pub copies_end : {p : Plan} {zs : List ℤ} {wd : ℕ} {y : Option Way} {w old src : List ℕ} → Copyable p zs wd (length old) (length src) → {at : State} {now : List ℕ}
    → Copies p zs wd y w old src false at now → now ≡ copied wd (walk_cells wd p zs) old src
unfolding copied
copies_end {p} {zs} {wd} {y} {w} {old} {src} h {at} {now} k =
    sym (ap (λ (l : List Placed). copied wd (over l (block_cells wd p.strides)) now src) (walking_over k.walking)) ∙ k.left
