-- A STRETCH IS ITS BLOCKS: what a call of `take_stretch` leaves of the arrays is the walk after so many steps, and what it tells, laid out, are
-- the blocks that those steps hand out.
-- Assumes nothing.
use mathlib.Core.Path.{◌≡◌, refl, sym, ap, ap₂, ◌∙◌, subst}
use mathlib.Core.Bool.{Bool, true, false, not}
use mathlib.Core.List.{List, [], ◌∷◌, ◌++◌, map, map-append}
use Prim.Native.Nat.{ℕ, zero, suc, ◌+◌, ◌-◌, ◌*◌, ◌^◌, ◌≤◌, ◌<◌, min}
use native.Mathlib.Nat.{zero-add, lt_of_le_of_lt, mul-le-mul_right}
use native.Mathlib.Numerals.{add-one}
use native.Mathlib.Omega.{arith}
use lib.IntN.{ℤ, pos, nat_abs, sub_ℕ, ◌+ℤ◌, ◌*ℤ◌, +ℤ_idl, +ℤ_idr, zero-*ℤ, pos-*ℤ-pos}
use lib.ListN.{length, get_or, take, replicate, length-append, length-replicate, get_or-replicate}
use lib.Seq.{get_or-take, length-take-le}
use mir.Syntax.{w64}
use mir.Val.{SFits}
use Rattle.strided.specs.Base.{run}
use Rattle.std.specs.Prelude.{Option, None, Some, Result}
use Rattle.strided.specs.Step.{stepped, left as left_by, handed_block, walk_after}
use Rattle.strided.specs.Bulk.{handing, next_blocks}
use Rattle.strided.specs.declared.Refusal.{Refusal}
use Rattle.strided.specs.declared.Block.{Block}
use Rattle.strided.specs.declared.Plan.{Plan}
use Rattle.strided.specs.declared.Walk.{Walk}
use Rattle.strided.specs.declared.Stepped.{Stepped}
use Rattle.laws.specs.Base.Integers.{*ℤ-assoc}
use Rattle.laws.specs.Base.Lists.{run-append}
use Rattle.laws.specs.Walk.Bulk.{walk_more, blocks_more}
use Rattle.laws.specs.Walk.Placed.{Placed, placed_of}
use Rattle.advance.specs.Blocks.{length_of}
use Rattle.advance.specs.declared.State.{State}
use Rattle.advance.specs.Axis.{widths}
use Rattle.advance.specs.Carry.{state_of, Tiled, AdvancedTo}
use Rattle.advance.specs.Filled.{by_lt, filled_at, filled_length}
use Rattle.advance.specs.Moves.{after_move, moved_at, shifted}
use Rattle.advance.proofs.Offsets.{moved_offsets}
use Rattle.advance.proofs.Dot.{roomy_offset}
use Rattle.advance.proofs.Signed as signed
use Rattle.strided.specs.Memory.{walk_of}
use Rattle.walk.specs.Lent.{Taken}
use Rattle.walk.proofs.Stepping.{running, taken_after, roomy_here, start_here, here as the_block, block_here, offsets_here, length-here, block_step}
use Rattle.walker.specs.declared.way.Way.{Way}
use Rattle.walker.specs.declared.Next.{Next}
use Rattle.walker.specs.Stretch.{moved_on, block_in, told, length_handed, stretch_at}
use Rattle.walker.specs.Way.{Leads, left_of, moves_of, OnTo, Strides, Strode}
use Rattle.walker.proofs.Going.{Striding, below, some_left, moved_on_lem, unmoved_on, on_none, on_step, on_length, moved-there}
use Rattle.walker.proofs.Rows.{moved_list}

-- ---- offsets

-- j moves at once
moves_at_once : (o s : ℤ) (from by j : ℕ) → after_move o s from (from + j * by) ≡ o +ℤ pos j *ℤ after_move (pos 0) s 0 by
unfolding after_move
moves_at_once o s from by j =
    let a : sub_ℕ by 0 ≡ pos by = signed.ahead 0 by (omega arith) ∙ ap pos (let g : by - 0 ≡ by = omega arith in g) in
    let b : sub_ℕ (from + j * by) from ≡ pos (j * by) = signed.ahead from (from + j * by) (omega arith) ∙ ap pos (let g : from + j * by - from ≡ j * by = omega arith in g) in
    let d : pos (j * by) *ℤ s ≡ pos j *ℤ (pos by *ℤ s) = ap (λ (z : ℤ). z *ℤ s) (sym (pos-*ℤ-pos j by)) ∙ *ℤ-assoc (pos j) (pos by) s in
    ap (λ (z : ℤ). o +ℤ z *ℤ s) b ∙ ap (λ (z : ℤ). o +ℤ z) (d ∙ sym (ap (λ (z : ℤ). pos j *ℤ z) (+ℤ_idl (sub_ℕ by 0 *ℤ s) ∙ ap (λ (z : ℤ). z *ℤ s) a)))

pub moves_long : (y : Option Way) (P : Plan) → length (moves_of y P) ≡ 8
moves_long None P = length-replicate {A = ℤ} 8 (pos 0)
moves_long (Some y) P = filled_length (replicate 8 (pos 0)) (moved_at y.axis 0 y.by P.strides (replicate 8 (pos 0))) P.operands ∙ length-replicate {A = ℤ} 8 (pos 0)

-- a move tells its offsets
same_offsets : (y : Option Way) {P : Plan} {w : List ℕ} {at : State} → Strides P w at → (j : ℕ) {at₁ at₂ : State} → OnTo y j P w at at₁ → OnTo y j P w at at₂ → at₁.offsets ≡ at₂.offsets
same_offsets y k j a b = moved_offsets k.roomy a ∙ sym (moved_offsets k.roomy b)

-- along a way
module _ {y : Way} {P : Plan} {w : List ℕ} {at : State} (m : Striding (Some y) P w at) where
  abbrev few : P.operands ≤ 8
  few = m.strides.roomy.few

  move_is : (k : ℕ) → k < P.operands → get_or (moves_of (Some y) P) k (pos 0) ≡ after_move (pos 0) (get_or P.strides (k * 64 + y.axis) (pos 0)) 0 y.by
  move_is k h =
      let f = few in
      let eight : length {A = ℤ} (replicate 8 (pos 0)) ≡ 8 = length-replicate {A = ℤ} 8 (pos 0) in
      filled_at (replicate 8 (pos 0)) (moved_at y.axis 0 y.by P.strides (replicate 8 (pos 0))) (pos 0) P.operands k h (omega (arith, eight, f))
      ∙ ap (λ (u : ℤ). after_move u (get_or P.strides (k * 64 + y.axis) (pos 0)) 0 y.by) (get_or-replicate 8 k (pos 0) (pos 0) (omega (arith, f, h)))

  steps_on : (j : ℕ) → j < left_of (Some y) P w at.counters → (k : ℕ) → k < P.operands → SFits w64 (pos j *ℤ get_or (moves_of (Some y) P) k (pos 0))
  unfolding after_move
  steps_on j g k h =
      let v : ℤ = get_or P.strides (k * 64 + y.axis) (pos 0) in
      let a : sub_ℕ y.by 0 ≡ pos y.by = signed.ahead 0 y.by (omega arith) ∙ ap pos (let z : y.by - 0 ≡ y.by = omega arith in z) in
      let d : get_or (moves_of (Some y) P) k (pos 0) ≡ pos y.by *ℤ v = move_is k h ∙ +ℤ_idl (sub_ℕ y.by 0 *ℤ v) ∙ ap (λ (z : ℤ). z *ℤ v) a in
      let b : pos j *ℤ get_or (moves_of (Some y) P) k (pos 0) ≡ pos (j * y.by) *ℤ v = ap (λ (z : ℤ). pos j *ℤ z) d ∙ sym (*ℤ-assoc (pos j) (pos y.by) v) ∙ ap (λ (z : ℤ). z *ℤ v) (pos-*ℤ-pos j y.by) in
      let small : j * y.by * nat_abs v < 2 ^ 63 =
      lt_of_le_of_lt (mul-le-mul_right (nat_abs v) (let f = below m j g in let z : j * y.by ≤ get_or P.extents y.axis 0 - 1 = omega (arith, f) in z)) (m.strides.roomy.span k y.axis h (m.leads.along y refl).there) in
      subst (SFits w64) (sym b) (record { sfits = lt_of_le_of_lt (signed.mag_mul (j * y.by) v) small })

  each_on : (j : ℕ) → j < left_of (Some y) P w at.counters → {at₁ : State} → OnTo (Some y) j P w at at₁ → (k : ℕ) → k < P.operands
      → get_or at₁.offsets k (pos 0) ≡ get_or at.offsets k (pos 0) +ℤ pos j *ℤ get_or (moves_of (Some y) P) k (pos 0)
  each_on j g {at₁} n k h =
      let f = few in
      let x = m.strides.roomy.offered in
      let u : at₁.offsets ≡ shifted P y.axis (get_or at.counters y.axis 0) (get_or at.counters y.axis 0 + j * y.by) at.offsets = same_offsets (Some y) m.strides j n (moved_on_lem m j g) in
      ap (λ (z : List ℤ). get_or z k (pos 0)) u
      ∙ filled_at at.offsets (moved_at y.axis (get_or at.counters y.axis 0) (get_or at.counters y.axis 0 + j * y.by) P.strides at.offsets) (pos 0) P.operands k h (omega (arith, x, f))
      ∙ moves_at_once (get_or at.offsets k (pos 0)) (get_or P.strides (k * 64 + y.axis) (pos 0)) (get_or at.counters y.axis 0) y.by j
      ∙ ap (λ (z : ℤ). get_or at.offsets k (pos 0) +ℤ pos j *ℤ z) (sym (move_is k h))

-- the way from the first block to each of the others fits 64 bits
pub steps_fit : (y : Option Way) {P : Plan} {w : List ℕ} {at : State} → Striding y P w at → (j : ℕ) → j < left_of y P w at.counters → (k : ℕ) → k < P.operands → SFits w64 (pos j *ℤ get_or (moves_of y P) k (pos 0))
steps_fit None m zero g k h = subst (SFits w64) (sym (zero-*ℤ (get_or (replicate 8 (pos 0)) k (pos 0)))) (record { sfits = omega arith })
steps_fit None m (suc j) g k h = absurd (let z : ⊥ = omega (arith, g) in z)
steps_fit (Some y) m j g k h = steps_on m j g k h

each : (y : Option Way) {P : Plan} {w : List ℕ} {at : State} → Striding y P w at → (j : ℕ) → j < left_of y P w at.counters → {at₁ : State} → OnTo y j P w at at₁ → (k : ℕ) → k < P.operands
    → get_or at₁.offsets k (pos 0) ≡ get_or at.offsets k (pos 0) +ℤ pos j *ℤ get_or (moves_of y P) k (pos 0)
each None {at = at} m zero g n k h =
    let d : ℤ = get_or (replicate 8 (pos 0)) k (pos 0) in
    ap (λ (v : List ℤ). get_or v k (pos 0)) (same_offsets None m.strides 0 n (unmoved_on None m.strides))
    ∙ sym (ap (λ (v : ℤ). get_or at.offsets k (pos 0) +ℤ v) (zero-*ℤ d) ∙ +ℤ_idr (get_or at.offsets k (pos 0)))
each None m (suc j) g n k h = absurd (let z : ⊥ = omega (arith, g) in z)
each (Some y) m j g n k h = each_on m j g n k h

module _ {y : Option Way} {P : Plan} {w : List ℕ} {at : State} (m : Striding y P w at) where
  module _ (j : ℕ) (g : j < left_of y P w at.counters) {at₁ : State} (n : OnTo y j P w at at₁) where
    abbrev D : List ℤ
    D = moves_of y P

    on_offsets : take P.operands at₁.offsets ≡ moved_on j (take P.operands at.offsets) (take P.operands D)
    on_offsets =
        let f = m.strides.roomy.few in
        let x = m.strides.roomy.offered in
        let x₁ = n.roomy.offered in
        let l = moves_long y P in
        let a : length (take P.operands at.offsets) ≡ P.operands = length-take-le P.operands at.offsets (omega (arith, x, f)) in
        let b : length (take P.operands at₁.offsets) ≡ P.operands = length-take-le P.operands at₁.offsets (omega (arith, x₁, f)) in
        let d : length (take P.operands D) ≡ P.operands = length-take-le P.operands D (omega (arith, l, f)) in
        moved_list j (take P.operands at₁.offsets) (take P.operands at.offsets) (take P.operands D) (b ∙ sym a) (d ∙ sym a)
        (λ k h. let h' : k < P.operands = subst (λ (i : ℕ). k < i) a h in
        get_or-take P.operands at₁.offsets k (pos 0) h' ∙ each y m j g n k h'
        ∙ sym (ap₂ (λ (u v : ℤ). u +ℤ pos j *ℤ v) (get_or-take P.operands at.offsets k (pos 0) h') (get_or-take P.operands D k (pos 0) h')))

-- ---- the walk

-- a walk that runs, the block sizes in force, the starts of its tiles, and a way
pub record At (p : Plan) (y : Option Way) (w t : List ℕ) (u : Walk) : Type 0 where
  pub widths-are : w ≡ widths p
  pub leads : Leads y p w
  pub tiles : Tiled p w (state_of t u.counters u.offsets)
  pub taken : Taken p u
  pub runs : u.ended ≡ false

module _ {p : Plan} {y : Option Way} {w t : List ℕ} {u : Walk} (a : At p y w t u) where
  -- where it stands
  abbrev from : State
  from = state_of t u.counters u.offsets

  pub asks : Striding y p w from
  asks = record {
    leads = a.leads;
    strides = record { roomy = roomy_here p u a.taken a.runs t; tiled = a.tiles; start = start_here p u a.taken a.runs w a.widths-are };
  }

  abbrev left : ℕ
  left = left_of y p w u.counters

  abbrev On : ℕ → State → Type 0
  On j = OnTo y j p w from

  pub some_here : 0 < left
  some_here = some_left y asks

  -- every offset of the stretch fits 64 bits
  pub fits_on : (j : ℕ) → j < left → (k : ℕ) → k < p.operands → SFits w64 (get_or u.offsets k (pos 0) +ℤ pos j *ℤ get_or (moves_of y p) k (pos 0))
  fits_on j g k b = let n = moved-there y asks j g in subst (SFits w64) (each y asks j g n.moved k b) (roomy_offset n.moved.roomy k b)

  -- the first j blocks are the first j of the stretch laid out
  pub record Lies (j : ℕ) : Type 0 where
    pub full : length (next_blocks j p u) ≡ j
    pub blocks : (limit : ℕ) → map (placed_of p.operands) (next_blocks j p u) ≡ map (block_in (stretch_at y limit p u)) (run 0 j)

  -- AFTER j BLOCKS the walk stands there
  pub record Stands (j : ℕ) (more : Bool) (at : State) : Type 0 where
    pub state : walk_of (not more) at.counters at.offsets ≡ walk_after p j u
    pub taken : Taken p (walk_of (not more) at.counters at.offsets)
    pub tiles : Tiled p w at
    pub lies : Lies j

  -- the length of the block at the state
  len_here : length_handed (handed_block (stepped p u)) ≡ length_of p w u.counters
  len_here = ap length_handed (block_here p u a.taken a.runs) ∙ sym (length-here p u a.taken a.runs w a.widths-are)

  -- one block more
  module _ (j : ℕ) (g : j < left) {at : State} (d : Stands j true at) (n : On j at) where
    abbrev here : Walk
    here = walk_of false at.counters at.offsets

    -- the block there
    abbrev block : Block
    block = the_block p here d.taken refl

    placed : (limit : ℕ) → placed_of p.operands block ≡ block_in (stretch_at y limit p u) j
    placed limit =
        let x : take p.operands block.offsets ≡ moved_on j (take p.operands u.offsets) (take p.operands (moves_of y p)) =
        ap (take p.operands) (offsets_here p here d.taken refl) ∙ on_offsets asks j g n in
        let z : block.length ≡ length_handed (handed_block (stepped p u)) =
        sym (length-here p here d.taken refl w a.widths-are) ∙ ap (length_of p w) n.counters ∙ on_length y asks j g ∙ sym len_here in
        λ i. record { offsets = x i; length = z i }

    more_blocks : next_blocks (j + 1) p u ≡ next_blocks j p u ++ (block ∷ [])
    more_blocks =
        blocks_more p j 1 u d.lies.full
        ∙ ap (λ (v : Walk). next_blocks j p u ++ handing (handed_block (stepped p v)) []) (sym d.state)
        ∙ ap (λ (x : Option Block). next_blocks j p u ++ handing x []) (block_here p here d.taken refl)

    lies_on : Lies (suc j)
    lies_on =
        let f = d.lies.full in
        subst Lies (add-one j)
        (record {
          full = omega (arith, ap length more_blocks, length-append (next_blocks j p u) (block ∷ []), f);
          blocks = λ limit.
              let S = stretch_at y limit p u in
              ap (map (placed_of p.operands)) more_blocks
              ∙ map-append (placed_of p.operands) (next_blocks j p u) (block ∷ [])
              ∙ ap₂ (λ (x : List Placed) (z : Placed). x ++ (z ∷ [])) (d.lies.blocks limit) (placed limit)
              ∙ ap (λ (i : ℕ). map (block_in S) (run 0 j) ++ (block_in S i ∷ [])) (sym (zero-add j))
              ∙ sym (map-append (block_in S) (run 0 j) (run (0 + j) 1))
              ∙ ap (map (block_in S)) (sym (run-append j 1 0));
        })

    one_on : {more : Bool} {at₂ : State} → AdvancedTo p w at more at₂ → Stands (suc j) more at₂
    one_on {more} {at₂} v =
        let e : walk_of (not more) at₂.counters at₂.offsets ≡ walk_after p (suc j) u =
        ap (λ (x : Result Stepped Refusal). left_by x here) (block_step p here d.taken refl w a.widths-are refl refl v) ∙ ap (walk_after p 1) d.state ∙ sym (walk_more p j 1 u) ∙ ap (λ (i : ℕ). walk_after p i u) (add-one j) in
        record { state = e; taken = subst (Taken p) (sym e) (taken_after p u a.taken (suc j)); tiles = v.tiled; lies = lies_on }

  -- at every block of the stretch
  stands_at : (j : ℕ) → j < left → {at : State} → On j at → Stands j true at
  stands_at zero g {at} n =
      let x : u.counters ≡ at.counters = sym (n.counters ∙ on_none y u.counters) in
      let z : u.offsets ≡ at.offsets = same_offsets y asks.strides 0 (unmoved_on y asks.strides) n in
      let e : walk_of false at.counters at.offsets ≡ u = sym (running u a.runs ∙ ap₂ (λ (c : List ℕ) (o : List ℤ). walk_of false c o) x z) in
      record { state = e; taken = subst (Taken p) (sym e) a.taken; tiles = n.tiled; lies = record { full = refl; blocks = λ limit. refl } }
  stands_at (suc j) g n =
      let f : j < left = omega (arith, g) in
      let b = moved-there y asks j f in
      one_on j f (stands_at j f b.moved) b.moved (on_step y asks j g b.moved n)

  -- THE BLOCKS OF A STRETCH, up to the last
  pub lies_at : (j : ℕ) → j ≤ left → Lies j
  lies_at zero g = record { full = refl; blocks = λ limit. refl }
  lies_at (suc j) g = let n = moved-there y asks j g in lies_on j g (stands_at j g n.moved) n.moved

  -- WHAT A CALL LEAVES
  module _ {limit : ℕ} {r : Next} {first : List ℤ} {at : State} (d : Strode y limit p w from r first at) where
    -- the walk after the blocks of the stretch
    pub strode_stands : Stands r.count r.more at
    strode_stands = by_lt limit left
        (λ g. let x = d.short g in
        subst (λ (b : Bool). Stands r.count b at) (sym x.0) (subst (λ (n : ℕ). Stands n true at) (sym (d.count ∙ (let z : min limit left ≡ limit = omega (arith, g) in z))) (stands_at limit g x.1)))
        (λ g. let x = d.all g in
        let s = some_here in
        let f : left - 1 < left = omega (arith, s) in
        subst (λ (n : ℕ). Stands n r.more at) (sym (d.count ∙ (let z : min limit left ≡ suc (left - 1) = omega (arith, g, s) in z))) (one_on (left - 1) f (stands_at (left - 1) f x.last) x.last x.then))

    -- and it told the stretch at the state
    pub strode_stretch : told p.operands r first (moves_of y p) ≡ stretch_at y limit p u
    strode_stretch =
        let x = d.length ∙ sym len_here in
        let z = d.count ∙ ap (λ (b : List ℕ). min limit (left_of y p b u.counters)) a.widths-are in
        λ i. record { offsets = take p.operands (d.offsets i); length = x i; count = z i; moves = take p.operands (moves_of y p) }
