-- A WALK IN STRETCHES: what a loop over stretches keeps, and what a call of `take_stretch` makes of it. What a loop has written of the blocks
-- so far it says beside this.
-- Assumes nothing.
use mathlib.Core.Path.{◌≡◌, refl, sym, ap, ap₂, ◌∙◌, subst}
use mathlib.Core.Bool.{Bool, true, false, not}
use mathlib.Core.List.{List, [], ◌++◌, map, append-nil}
use Prim.Native.Nat.{ℕ, ◌+◌, ◌-◌, ◌^◌, ◌≤◌, ◌<◌}
use native.Mathlib.Omega.{arith}
use lib.IntN.{ℤ, pos, ◌+ℤ◌, ◌*ℤ◌}
use Rattle.std.specs.Prelude.{Option, Some}
use lib.ListN.{length, get_or, take, drop, replicate, length-append, length-map, length-take}
use mir.Syntax.{w64}
use mir.Val.{SFits}
use Rattle.strided.specs.Base.{run}
use Rattle.strided.specs.Step.{walk_after}
use Rattle.strided.specs.Bulk.{next_blocks}
use Rattle.strided.specs.declared.Plan.{Plan}
use Rattle.strided.specs.declared.Walk.{Walk}
use Rattle.strided.specs.declared.Block.{Block}
use Rattle.laws.specs.Walk.Bulk.{walk_more, blocks_more}
use Rattle.laws.specs.Walk.Placed.{Placed, placed_of, placed_walk, placed_part, placed-next, placed-over}
use Rattle.laws.specs.Text.Totals.{begun_placed}
use Rattle.laws.specs.Walk.Steps.{Ready, none_of}
use Rattle.advance.specs.Axis.{widths, starts_to}
use Rattle.advance.specs.declared.State.{State}
use Rattle.advance.specs.Carry.{state_of, Tiled}
use Rattle.advance.specs.Moves.{Shifts}
use Rattle.strided.specs.Memory.{walk_of}
use Rattle.walk.specs.Lent.{Taken}
use Rattle.walk.proofs.Stepping.{operands_few, tiled_here, roomy_here, ended_none}
use Rattle.walker.specs.declared.Course.{Course}
use Rattle.walker.specs.declared.way.Way.{Way}
use Rattle.walker.specs.declared.Next.{Next}
use Rattle.walker.specs.Stretch.{Stretch, block_in, laid, told, RowsFit, stretch_at}
use Rattle.walker.specs.Way.{Leads, left_of, moves_of, Strides, MayTell, Strode}
use Rattle.walker.proofs.Going.{may_tell}
use Rattle.walker.proofs.Leading.{moves_fit}
use Rattle.walker.proofs.Stretching.{At, Stands, asks, some_here, fits_on, steps_fit, moves_long, strode_stands, strode_stretch}
use Rattle.strided.specs.Begin.{begin_refused, started}

-- of a course that was made of the plan p
module _ (x : Course) {p : Plan} (e : x.tiling.plan.now ≡ p) where
  pub course_acts : x.tiling.widths ≡ widths p
  course_acts = subst (λ (q : Plan). x.tiling.widths ≡ widths q) e x.tiling.acting

  pub course_leads : Leads x.way p x.tiling.widths
  course_leads = subst (λ (q : Plan). Leads x.way q x.tiling.widths) e x.leads

-- n blocks of the walk from u on are done: where it stands
pub record Walked (p : Plan) (u : Walk) (y : Option Way) (w : List ℕ) (n : ℕ) (more : Bool) (at : State) : Type 0 where
  pub widths-are : w ≡ widths p
  pub leads : Leads y p w
  pub taken : Taken p (walk_of (not more) at.counters at.offsets)
  pub state : walk_of (not more) at.counters at.offsets ≡ walk_after p n u
  pub full : length (next_blocks n p u) ≡ n
  pub tiles : Tiled p w at

-- at its beginning
module _ {p : Plan} {y : Option Way} {w : List ℕ} (is : w ≡ widths p) (l : Leads y p w) {c : List ℕ} {o : List ℤ} (k : Taken p (walk_of false c o)) where
  pub walked_none : {t : List ℕ} → t ≡ starts_to w c p.rank → Walked p (walk_of false c o) y w 0 true (state_of t c o)
  walked_none {t} e = record {
    widths-are = is;
    leads = l;
    taken = k;
    state = refl;
    full = refl;
    tiles = tiled_here p (walk_of false c o) k w is (state_of t c o) e;
  }

  -- what `moves_of` asks
  pub may_move : (v : Way) → y ≡ Some v → Shifts p v.axis 0 v.by (replicate 8 (pos 0))
  may_move = moves_fit (roomy_here p (walk_of false c o) k refl []) l

-- while it runs
module _ {p : Plan} {u : Walk} {y : Option Way} {w : List ℕ} {n : ℕ} {at : State} (k : Walked p u y w n true at) where
  abbrev here : Walk
  here = walk_of false at.counters at.offsets

  a : At p y w at.tile_starts here
  a = record { widths-are = k.widths-are; leads = k.leads; tiles = k.tiles; taken = k.taken; runs = refl }

  -- what `take_stretch` asks
  pub walked_asks : Strides p w at
  walked_asks = (asks a).strides

  -- what `stretch_here` asks
  pub walked_tells : MayTell y p w at
  walked_tells = may_tell (asks a)

  -- the stretch has a block
  pub walked_left : 1 ≤ left_of y p w at.counters
  walked_left = some_here a

  -- blocks of it, told from the moves as `moves_of` tells them: all offsets fit, and so does the way to each block
  module _ {d' : List ℤ} (d-is : d' ≡ moves_of y p) {count : ℕ} (h : count ≤ left_of y p w at.counters) where
    pub rows-here : RowsFit count p.operands d' at.offsets
    rows-here = record {
      few = operands_few p here k.taken;
      moves = ap length d-is ∙ moves_long y p;
      offered = k.taken.offsets_all;
      fits = λ j b i f. subst (SFits w64) (ap (λ (q : List ℤ). get_or at.offsets i (pos 0) +ℤ pos j *ℤ get_or q i (pos 0)) (sym d-is)) (fits_on a j (omega (arith, h, b)) i f);
    }

    pub steps_here : (j i : ℕ) → j < count → i < p.operands → SFits w64 (pos j *ℤ get_or d' i (pos 0))
    steps_here j i b f = subst (SFits w64) (ap (λ (q : List ℤ). pos j *ℤ get_or q i (pos 0)) (sym d-is)) (steps_fit y (asks a) j (omega (arith, h, b)) i f)

  module _ {limit : ℕ} {r : Next} {first : List ℤ} {at' : State} (x : Strode y limit p w at r first at') where
    s : Stands a r.count r.more at'
    s = strode_stands a x

    -- a stretch has a block, and no more than are asked for
    pub walked_some : 1 ≤ limit → 1 ≤ r.count
    walked_some h = let f = some_here a in let e = x.count in omega (arith, f, e, h)

    pub walked_most : r.count ≤ limit
    walked_most = let e = x.count in omega (arith, e)

    -- its blocks come next
    pub walked_blocks : next_blocks (n + r.count) p u ≡ next_blocks n p u ++ next_blocks r.count p here
    walked_blocks = blocks_more p n r.count u k.full ∙ ap (λ (v : Walk). next_blocks n p u ++ next_blocks r.count p v) (sym k.state)

    pub walked_next : Walked p u y w (n + r.count) r.more at'
    walked_next = record {
      widths-are = k.widths-are;
      leads = k.leads;
      taken = s.taken;
      state = s.state ∙ ap (walk_after p r.count) k.state ∙ sym (walk_more p n r.count u);
      full = ap length walked_blocks ∙ length-append (next_blocks n p u) (next_blocks r.count p here) ∙ ap₂ (λ (i j : ℕ). i + j) k.full s.lies.full;
      tiles = s.tiles;
    }

    -- d' are the moves, as `moves_of` tells them
    module _ {d' : List ℤ} (d-is : d' ≡ moves_of y p) where
      told_is : told p.operands r first d' ≡ stretch_at y limit p here
      told_is = ap (told p.operands r first) d-is ∙ strode_stretch a x

      -- what was told, laid out, are its blocks
      pub walked_laid : map (placed_of p.operands) (next_blocks r.count p here) ≡ laid (told p.operands r first d')
      walked_laid =
          let S = stretch_at y limit p here in
          s.lies.blocks limit ∙ ap (λ (m : ℕ). map (block_in S) (run 0 m)) (ap (λ (z : Stretch). z.count) told_is) ∙ ap laid (sym told_is)

      -- and all its offsets fit
      pub walked_fit : RowsFit r.count p.operands d' first
      walked_fit = let z = x.count in subst (RowsFit r.count p.operands d') (sym x.offsets) (rows-here d-is (omega (arith, z)))

      -- in a walk from the starts zs they are the next of the plan's blocks
      pub walked_part : {zs : List ℤ} → Ready p zs → u ≡ (started p zs)
          → drop n (placed_walk p zs) ≡ laid (told p.operands r first d') ++ drop (n + r.count) (placed_walk p zs)
      walked_part {zs} q b =
          placed-next p zs q r.count n
          ∙ ap (λ (l : List Placed). l ++ drop (n + r.count) (placed_walk p zs))
          (ap (λ (v : Walk). map (placed_of p.operands) (next_blocks r.count p v)) (ap (walk_after p n) (sym b) ∙ sym k.state) ∙ walked_laid)

-- in a walk from the starts zs there are as many
pub walked_within : {p : Plan} {u : Walk} {y : Option Way} {w : List ℕ} {n : ℕ} {more : Bool} {at : State} → Walked p u y w n more at → {zs : List ℤ} → Ready p zs → u ≡ (started p zs)
    → n ≤ length (placed_walk p zs)
walked_within {p} {u} {n = n} k {zs} q b =
    let e : map (placed_of p.operands) (next_blocks n p u) ≡ take n (placed_walk p zs) = ap (λ (v : Walk). map (placed_of p.operands) (next_blocks n p v)) b ∙ placed_part p zs q n 0 in
    let f = k.full in
    omega (arith, ap length e, length-map (next_blocks n p u) (placed_of p.operands), length-take n (placed_walk p zs), f)

-- at its end no block is left
module _ {p : Plan} {u : Walk} {y : Option Way} {w : List ℕ} {n : ℕ} {at : State} (k : Walked p u y w n false at) where
  pub walked_all : (m : ℕ) → next_blocks (n + m) p u ≡ next_blocks n p u
  walked_all m =
      blocks_more p n m u k.full
      ∙ ap (λ (l : List Block). next_blocks n p u ++ l) (ap (next_blocks m p) (sym k.state) ∙ ended_none p (walk_of true at.counters at.offsets) k.taken refl m)
      ∙ append-nil (next_blocks n p u)

  pub walked_over : {zs : List ℤ} → Ready p zs → u ≡ (started p zs) → drop n (placed_walk p zs) ≡ []
  walked_over {zs} q b = placed-over p zs q n (ap (λ (v : Walk). (walk_after p n v).ended) (sym b) ∙ ap (λ (v : Walk). v.ended) (sym k.state))

-- ---- a loop over the stretches of a walk from the starts zs

pub record Walking (p : Plan) (zs : List ℤ) (y : Option Way) (w : List ℕ) (n : ℕ) (more : Bool) (at : State) : Type 0 where
  pub ready : Ready p zs
  pub first : Walk
  pub begins : first ≡ started p zs
  pub walked : Walked p first y w n more at

-- while it runs, a stretch of it
module _ {p : Plan} {zs : List ℤ} {y : Option Way} {w : List ℕ} {n : ℕ} {at : State} (k : Walking p zs y w n true at)
    {limit : ℕ} {r : Next} {first : List ℤ} {at' : State} (x : Strode y limit p w at r first at') where
  pub walking_next : Walking p zs y w (n + r.count) r.more at'
  walking_next = record { ready = k.ready; first = k.first; begins = k.begins; walked = walked_next k.walked x }

  -- its blocks are the plan's next
  pub walking_part : {d : List ℤ} → d ≡ moves_of y p → drop n (placed_walk p zs) ≡ laid (told p.operands r first d) ++ drop (n + r.count) (placed_walk p zs)
  walking_part e = walked_part k.walked x e k.ready k.begins

  within : n + r.count ≤ length (placed_walk p zs)
  within = walked_within (walked_next k.walked x) k.ready k.begins

  -- so that their number fits, and fewer are left
  pub walking_number : n + r.count < 2 ^ 64
  walking_number = let a = within in let b = begun_placed p zs (none_of (begin_refused p zs) k.ready.may) in omega (arith, a, b)

  pub walking_less : 1 ≤ limit → length (placed_walk p zs) - (n + r.count) < length (placed_walk p zs) - n
  walking_less h = let a = within in let b = walked_some k.walked x h in omega (arith, a, b)

-- at its end no block of the plan is left
pub walking_over : {p : Plan} {zs : List ℤ} {y : Option Way} {w : List ℕ} {n : ℕ} {at : State} → Walking p zs y w n false at → drop n (placed_walk p zs) ≡ []
walking_over k = walked_over k.walked k.ready k.begins
