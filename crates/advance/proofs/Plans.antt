-- THE STEP ON A PLAN'S ARRAYS, at a state that a begun walk reaches: the arrays hold the machine's counters and offsets, they have the room
-- that a move asks for, and after it they hold the machine's next state.
-- Assumes nothing.
use mathlib.Core.Path.{◌≡◌, refl, sym, ap, ap₂, ◌∙◌, subst}
use mathlib.Core.Bool.{Bool, true, false, cond}
use mathlib.Core.List.{List, [], ◌∷◌, map}
use Rattle.std.specs.Prelude.{Some}
use Prim.Native.Nat.{ℕ, zero, suc, ◌+◌, ◌-◌, ◌*◌, ◌≤◌, ◌<◌, min}
use native.Mathlib.Nat.{div-add-mod'}
use native.Mathlib.Omega.{arith}
use lib.Dec.{ltb, leb, eqb}
use lib.IntN.{ℤ, pos, ◌+ℤ◌, ◌-ℤ◌, +ℤ-neg_ℤ_cancel}
use lib.ListN.{length, get_or, take, drop, replicate, length-take, length-drop, length-replicate, get_or-map, get_or-eq_default}
use lib.Seq.{ext_get_or, get_or-take, get_or-drop}
use borrow.Author.Tests.{ltb-true, ltb-false, ne_eqb, eq-eqb}
use Rattle.strided.specs.Base.{padded, and_then}
use Rattle.strided.specs.Layout.{Within, dot}
use Rattle.strided.specs.Walk.{CutAxis, ax, cut, cut_axes, length_at, next, zeros, run_strides, first_of}
use Rattle.strided.specs.Begin.{plan_extents, plan_row, plan_rows}
use Rattle.strided.specs.Step.{offsets_from, plan_cut_axes}
use Rattle.strided.specs.declared.Plan.{Plan}
use Rattle.laws.specs.Base.Arrays.{length-padded, get_d_padded}
use Rattle.laws.specs.Base.Lists.{get_d_run}
use Rattle.laws.specs.Base.Trace.{after-suc}
use Rattle.laws.specs.Walk.States.{state_after, Inside, OnStart, Wide}
use Rattle.laws.specs.Walk.Cuts.{cut_inside}
use Rattle.laws.specs.Walk.Reach.{reach as walk-reach}
use Rattle.laws.specs.Walk.Machine.{length_offsets}
use Rattle.laws.specs.Walk.Offsets.{get_d_offsets}
use Rattle.laws.specs.Walk.Steps.{Ready, wide, rows-many, as_many, cut-many, counters-many}
use Rattle.advance.specs.Filled.{by_lt, filled_to, filled_length, filled_above, filled_at}
use Rattle.advance.specs.Axis.{width_of, width_at, widths, start_of}
use Rattle.advance.specs.Arrays as arrays
use Rattle.advance.specs.Carry.{carry_of, next_of, dot_to, start_at}
use Rattle.advance.specs.Blocks.{length_by, length_of, stride_on, column_to, firsts_of, offset_at, offsets_at}
use Rattle.advance.proofs.Bridge.{from, from-take, axes_at, put, next_carry}
use Rattle.advance.proofs.Offsets.{dot_list}
use Rattle.advance.specs.Sized.{Sized}

-- ---- the cut axes of a plan, out of its arrays

-- the block size in force on axis j, out of arrays
abbrev pub width_in : ℕ → List ℕ → List ℕ → ℕ → ℕ
width_in = arrays.width_in

axes-few : (rank : ℕ) (e b ws : List ℕ) → leb rank 8 ≡ true → (n i : ℕ) → ((j : ℕ) → j < i + n → get_or ws j 0 ≡ width_in rank e b j)
    → axes_at e ws i n ≡ cut (from e i n) (from b i n)
unfolding width_of
axes-few rank e b ws h zero i f = refl
axes-few rank e b ws h (suc n) i f =
    ap₂ (λ (w : ℕ) (r : List CutAxis). ax (get_or e i 0) w ∷ r) (f i (omega arith) ∙ rw h) (axes-few rank e b ws h n (suc i) (λ j l. f j (omega arith)))

axes-rest : (rank : ℕ) (e b ws : List ℕ) → leb rank 8 ≡ false → (n i : ℕ) → 0 < i → ((j : ℕ) → j < i + n → get_or ws j 0 ≡ width_in rank e b j)
    → axes_at e ws i n ≡ cut (from e i n) []
unfolding width_of
axes-rest rank e b ws h zero i p f = refl
axes-rest rank e b ws h (suc n) i p f =
    let q : eqb i 0 ≡ false = ne_eqb i 0 (λ z. bad i p z) in
    ap₂ (λ (w : ℕ) (r : List CutAxis). ax (get_or e i 0) w ∷ r) (f i (omega arith) ∙ rw (h, q)) (axes-rest rank e b ws h n (suc i) (omega arith) (λ j l. f j (omega arith)))
  where
    bad : (i : ℕ) → 0 < i → i ≡ 0 → ⊥
    bad i p z = omega arith

axes-many : (rank : ℕ) (e b ws : List ℕ) → leb rank 8 ≡ false → ((j : ℕ) → j < rank → get_or ws j 0 ≡ width_in rank e b j)
    → axes_at e ws 0 rank ≡ cut (from e 0 rank) (take 1 (from b 0 rank))
unfolding width_of
axes-many zero e b ws h f = refl
axes-many (suc n) e b ws h f =
    ap₂ (λ (w : ℕ) (r : List CutAxis). ax (get_or e 0 0) w ∷ r) (f 0 (omega arith) ∙ rw h) (axes-rest (suc n) e b ws h n 1 (omega arith) (λ j l. f j (omega arith)))

pub axes_are : (rank : ℕ) (e b ws : List ℕ) → rank ≤ length e → rank ≤ length b → ((j : ℕ) → j < rank → get_or ws j 0 ≡ width_in rank e b j)
    → axes_at e ws 0 rank ≡ cut_axes (take rank e) (take rank b)
axes_are rank e b ws he hb f = go (leb rank 8) refl
  where
    len : length (take rank e) ≡ rank
    len = let h = length-take rank e in omega (arith, h, he)

    same : (x : Bool) → cut (from e 0 rank) (cond x (from b 0 rank) (take 1 (from b 0 rank))) ≡ cut (take rank e) (cond x (take rank b) (take 1 (take rank b)))
    same x = ap₂ (λ (u v : List ℕ). cut u (cond x v (take 1 v))) (from-take e rank he) (from-take b rank hb)

    go : (x : Bool) → leb rank 8 ≡ x → axes_at e ws 0 rank ≡ cut (take rank e) (cond (leb (length (take rank e)) 8) (take rank b) (take 1 (take rank b)))
    go true q = rw (len, q) (axes-few rank e b ws q rank 0 (λ j l. f j (omega arith)) ∙ same true)
    go false q = rw (len, q) (axes-many rank e b ws q f ∙ same false)

-- ---- next block and length, for any rank

next_any : (rank : ℕ) (e ws c : List ℕ) → length c ≡ rank → rank ≤ 64 → Wide (axes_at e ws 0 rank) → Inside (axes_at e ws 0 rank) c → OnStart (axes_at e ws 0 rank) c
    → ((y : List ℕ) → next (axes_at e ws 0 rank) c ≡ Some y → length y ≡ rank)
    → next_of rank e ws (padded 64 0 c) ≡ put 64 (zeros (axes_at e ws 0 rank)) (next (axes_at e ws 0 rank) c)
unfolding next_of carry_of
next_any zero e ws [] lc h wd i o ly = refl
next_any zero e ws (x ∷ c) lc h wd i o ly = absurd (omega arith)
next_any (suc n) e ws [] lc h wd i o ly = absurd (omega arith)
next_any (suc n) e ws (s ∷ v) lc h wd i o ly = next_carry n 63 e ws s v (omega arith) (omega arith) wd i o ly

length_any : (p : Plan) (ws c : List ℕ) (n : ℕ) → p.rank ≡ n → length c ≡ n → length_of p ws (padded 64 0 c) ≡ length_at (axes_at p.extents ws 0 n) c
unfolding length_by
length_any p ws c zero q lc = rw (eq-eqb p.rank 0 q)
length_any p ws [] (suc n) q lc = absurd (omega arith)
length_any p ws (s ∷ v) (suc n) q lc = rw (ne_eqb p.rank 0 (λ z. bad n (sym q ∙ z))) (go (ltb w (get_or p.extents 0 0 - s)) refl)
  where
    w : ℕ
    w = get_or ws 0 0

    bad : (n : ℕ) → suc n ≡ 0 → ⊥
    bad n q = omega arith

    go : (x : Bool) → ltb w (get_or p.extents 0 0 - s) ≡ x → cond x w (get_or p.extents 0 0 - s) ≡ min w (get_or p.extents 0 0 - s)
    go true q = omega (arith, ltb-true w (get_or p.extents 0 0 - s) q)
    go false q = omega (arith, ltb-false w (get_or p.extents 0 0 - s) q)

-- axis 0 stands where a tile starts
start_any : (rank : ℕ) (e ws c : List ℕ) → length c ≡ rank → OnStart (axes_at e ws 0 rank) c → 0 < rank → get_or (padded 64 0 c) 0 0 ≡ start_of (get_or ws 0 0) (get_or (padded 64 0 c) 0 0)
start_any zero e ws c lc o h = absurd (let z : ⊥ = omega arith in z)
start_any (suc n) e ws [] lc o h = absurd (let z : ⊥ = omega arith in z)
start_any (suc n) e ws (s ∷ v) lc o h = let d = div-add-mod' s (get_or ws 0 0) in omega (arith, d, o)

first-at : (ts : List ℤ) → first_of ts ≡ get_or ts 0 (pos 0)
first-at [] = refl
first-at (t ∷ ts) = refl

add-sub : (z a d : ℤ) → (z +ℤ a) -ℤ a +ℤ d ≡ z +ℤ d
add-sub z a d = ap (λ (x : ℤ). x +ℤ d) (+ℤ-neg_ℤ_cancel z a)

none_zero : (n i : ℕ) → get_or (replicate n (pos 0)) i (pos 0) ≡ pos 0
none_zero zero i = refl
none_zero (suc n) zero = refl
none_zero (suc n) (suc i) = none_zero n i

-- ---- a plan as a value has it

module _ (p : Plan) (zs : List ℤ) (r : Ready p zs) (z : Sized p) where
  -- the block sizes in force
  abbrev pub W : List ℕ
  W = widths p

  -- the counters and the offsets of a walk at c, as its arrays hold them
  abbrev pub C : List ℕ → List ℕ
  C c = padded 64 0 c

  abbrev pub O : List ℕ → List ℤ
  O c = padded 8 (pos 0) (offsets_from (plan_rows p) zs c)

  pub width_at_lem : (i : ℕ) → i < p.rank → get_or W i 0 ≡ width_at p i
  width_at_lem i h =
      let a : p.rank ≤ 64 = r.axes in
      filled_at (replicate 64 0) (width_at p) 0 p.rank i h (subst (λ (n : ℕ). p.rank ≤ n) (sym (length-replicate {A = ℕ} 64 0)) a)

  pub axes : axes_at p.extents W 0 p.rank ≡ plan_cut_axes p
  axes =
      let a : p.rank ≤ 64 = r.axes in
      axes_are p.rank p.extents p.blocks W (omega (arith, z.extents-all, a)) (omega (arith, z.blocks_all, a)) width_at_lem

  pub row-length : (k : ℕ) → k < p.operands → length (plan_row p k) ≡ p.rank
  row-length k h =
      let a = length-take p.rank (drop (k * 64) p.strides) in
      let b = length-drop (k * 64) p.strides in
      let c : p.rank ≤ 64 = r.axes in
      let d : p.operands ≤ 8 = r.few in
      omega (arith, a, b, c, d, z.strides_all, h)

  pub stride_at : (k i : ℕ) → i < p.rank → get_or (plan_row p k) i (pos 0) ≡ get_or p.strides (k * 64 + i) (pos 0)
  stride_at k i h = get_or-take p.rank (drop (k * 64) p.strides) i (pos 0) h ∙ get_or-drop (k * 64) p.strides i (pos 0)

  pub dot_is : (k : ℕ) (u : List ℕ) → k < p.operands → length u ≡ p.rank → dot_to p.rank k (C u) p.strides ≡ dot u (plan_row p k)
  dot_is k u h l =
      let a : p.rank ≤ 64 = r.axes in
      dot_list p.rank k (C u) p.strides u (plan_row p k) l (row-length k h)
      (λ i g. get_d_padded 0 64 u i (omega (arith, a, g))) (λ i g. sym (stride_at k i g))

  row-at : (j : ℕ) → j < p.operands → get_or (plan_rows p) j [] ≡ plan_row p j
  row-at j h = let y : 0 + j ≡ j = omega arith in get_d_run (plan_row p) [] p.operands 0 j h ∙ ap (plan_row p) y

  -- each operand's offset at counters u
  pub offset_at_lem : (u : List ℕ) (j : ℕ) → j < p.operands → get_or (O u) j (pos 0) ≡ get_or zs j (pos 0) +ℤ dot u (plan_row p j)
  offset_at_lem u j h =
      let a : p.operands ≤ 8 = r.few in
      get_d_padded (pos 0) 8 (offsets_from (plan_rows p) zs u) j (omega (arith, a, h))
      ∙ get_d_offsets (plan_rows p) zs u j (as_many p zs r) (omega (arith, rows-many p zs r, h))
      ∙ ap (λ (ts : List ℤ). get_or zs j (pos 0) +ℤ dot u ts) (row-at j h)

  offset_behind : (u : List ℕ) (j : ℕ) → j < 8 → p.operands ≤ j → get_or (O u) j (pos 0) ≡ pos 0
  offset_behind u j b h =
      let l : length (offsets_from (plan_rows p) zs u) ≤ j = omega (arith, length_offsets (plan_rows p) zs u (as_many p zs r), rows-many p zs r, h) in
      get_d_padded (pos 0) 8 (offsets_from (plan_rows p) zs u) j b ∙ get_or-eq_default (offsets_from (plan_rows p) zs u) (pos 0) l

  start_sum : (c d : List ℕ) → length c ≡ p.rank → length d ≡ p.rank → (j : ℕ) → j < p.operands
      → offset_at p (C c) (O c) (C d) j ≡ get_or zs j (pos 0) +ℤ dot d (plan_row p j)
  unfolding start_at
  start_sum c d lc ld j g =
      ap₂ (λ (a b : ℤ). a +ℤ b) (ap₂ (λ (a b : ℤ). a -ℤ b) (offset_at_lem c j g) (dot_is j c g lc)) (dot_is j d g ld)
      ∙ add-sub (get_or zs j (pos 0)) (dot c (plan_row p j)) (dot d (plan_row p j))

  -- the offsets at counters d, told from those at counters c
  pub offsets_are : (c d : List ℕ) → length c ≡ p.rank → length d ≡ p.rank → offsets_at p (C c) (O c) (C d) ≡ O d
  offsets_are c d lc ld = ext_get_or (pos 0) left (O d) (len ∙ sym (length-padded (pos 0) 8 (offsets_from (plan_rows p) zs d))) (λ j h. by_lt j p.operands (inner j) (outer j (omega (arith, len, h))))
    where
      f : ℕ → ℤ
      f = offset_at p (C c) (O c) (C d)

      left : List ℤ
      left = filled_to (O c) f p.operands

      eight : length (O c) ≡ 8
      eight = length-padded (pos 0) 8 (offsets_from (plan_rows p) zs c)

      len : length left ≡ 8
      len = filled_length (O c) f p.operands ∙ eight

      inner : (j : ℕ) → j < p.operands → get_or left j (pos 0) ≡ get_or (O d) j (pos 0)
      inner j g =
          let a : p.operands ≤ 8 = r.few in
          filled_at (O c) f (pos 0) p.operands j g (omega (arith, eight, a)) ∙ start_sum c d lc ld j g ∙ sym (offset_at_lem d j g)

      outer : (j : ℕ) → j < 8 → p.operands ≤ j → get_or left j (pos 0) ≡ get_or (O d) j (pos 0)
      outer j h g = filled_above (O c) f (pos 0) p.operands j g ∙ offset_behind c j h g ∙ sym (offset_behind d j h g)

  -- the strides of axis 0
  pub firsts_are : firsts_of p ≡ padded 8 (pos 0) (run_strides (plan_cut_axes p) (plan_rows p))
  unfolding firsts_of
  firsts_are = go (plan_cut_axes p) (cut-many p zs r)
    where
      right : List ℤ
      right = padded 8 (pos 0) (map first_of (plan_rows p))

      eight : length {A = ℤ} (replicate 8 (pos 0)) ≡ 8
      eight = length-replicate {A = ℤ} 8 (pos 0)

      len : length (column_to 0 p.strides p.operands) ≡ 8
      len = filled_length (replicate 8 (pos 0)) (stride_on 0 p.strides) p.operands ∙ eight

      inner : 0 < p.rank → (j : ℕ) → j < 8 → j < p.operands → get_or (column_to 0 p.strides p.operands) j (pos 0) ≡ get_or right j (pos 0)
      inner h j b g =
          let a : p.operands ≤ 8 = r.few in
          filled_at (replicate 8 (pos 0)) (stride_on 0 p.strides) (pos 0) p.operands j g (omega (arith, eight, a))
          ∙ sym (stride_at j 0 h)
          ∙ sym (first-at (plan_row p j))
          ∙ ap first_of (sym (row-at j g))
          ∙ sym (get_or-map first_of (plan_rows p) j [])
          ∙ sym (get_d_padded (pos 0) 8 (map first_of (plan_rows p)) j b)

      outer : (j : ℕ) → j < 8 → p.operands ≤ j → get_or (column_to 0 p.strides p.operands) j (pos 0) ≡ get_or right j (pos 0)
      outer j b g =
          let l : length (plan_rows p) ≤ j = omega (arith, rows-many p zs r, g) in
          filled_above (replicate 8 (pos 0)) (stride_on 0 p.strides) (pos 0) p.operands j g ∙ none_zero 8 j
          ∙ sym (ap first_of (get_or-eq_default (plan_rows p) [] l))
          ∙ sym (get_or-map first_of (plan_rows p) j [])
          ∙ sym (get_d_padded (pos 0) 8 (map first_of (plan_rows p)) j b)

      go : (axs : List CutAxis) → length axs ≡ p.rank
          → cond (eqb p.rank 0) (replicate 8 (pos 0)) (column_to 0 p.strides p.operands) ≡ padded 8 (pos 0) (run_strides axs (plan_rows p))
      go [] l = rw (eq-eqb p.rank 0 (sym l))
      go (a ∷ axs) l =
          rw (ne_eqb p.rank 0 (λ q. bad (length axs) (l ∙ q)))
          (ext_get_or (pos 0) (column_to 0 p.strides p.operands) right (len ∙ sym (length-padded (pos 0) 8 (map first_of (plan_rows p))))
          (λ j h. by_lt j p.operands (inner (subst (λ (k : ℕ). 0 < k) l (omega arith)) j (omega (arith, len, h))) (outer j (omega (arith, len, h)))))
        where
          bad : (k : ℕ) → suc k ≡ 0 → ⊥
          bad k q = omega arith

  -- ---- at the state c of a walk that runs

  module _ (n : ℕ) (c : List ℕ) (e : state_after (plan_cut_axes p) n ≡ Some c) where
    pub long : length c ≡ p.rank
    long = counters-many p zs r n (Some c) e

    pub inside : Inside (plan_cut_axes p) c
    inside = ((walk-reach (plan_cut_axes p) c (wide p zs r)).0 (n, e)).0

    pub within : Within (plan_extents p) c
    within = (cut_inside (plan_extents p) _ c).0 inside

    pub extent_at : (i : ℕ) → i < p.rank → get_or (plan_extents p) i 0 ≡ get_or p.extents i 0
    extent_at i h = get_or-take p.rank p.extents i 0 h

    pub length_is : length_of p W (C c) ≡ length_at (plan_cut_axes p) c
    length_is = length_any p W c p.rank refl long ∙ ap (λ (l : List CutAxis). length_at l c) axes

    pub long_next : (y : List ℕ) → next (plan_cut_axes p) c ≡ Some y → length y ≡ p.rank
    long_next y g = counters-many p zs r (suc n) (Some y) (after-suc (next (plan_cut_axes p)) n _ ∙ ap (and_then (next (plan_cut_axes p))) e ∙ g)

    pub next_is : next_of p.rank p.extents W (C c) ≡ put 64 (zeros (plan_cut_axes p)) (next (plan_cut_axes p) c)
    next_is =
        let h = (walk-reach (plan_cut_axes p) c (wide p zs r)).0 (n, e) in
        next_any p.rank p.extents W c long r.axes (subst Wide (sym axes) (wide p zs r))
        (subst (λ (l : List CutAxis). Inside l c) (sym axes) h.0) (subst (λ (l : List CutAxis). OnStart l c) (sym axes) h.1)
        (λ y g. long_next y (ap (λ (l : List CutAxis). next l c) (sym axes) ∙ g))
        ∙ ap (λ (l : List CutAxis). put 64 (zeros l) (next l c)) axes

    pub first_start : 0 < p.rank → get_or (C c) 0 0 ≡ start_of (get_or W 0 0) (get_or (C c) 0 0)
    first_start =
        start_any p.rank p.extents W c long (subst (λ (l : List CutAxis). OnStart l c) (sym axes) ((walk-reach (plan_cut_axes p) c (wide p zs r)).0 (n, e)).1)
