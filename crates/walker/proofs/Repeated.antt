-- ALL STRETCHES OF A WALK: one after another, each laid out as its blocks, they are the plan's blocks in order, each once, to the end.
--   stretches_plan    from a beginning, to the end: the plan's blocks
--   stretches_blocks  from any state, with any limits: as many blocks as repeated steps hand out
--   stretches-all     from any state, to the end
-- Assumes nothing.
use mathlib.Core.Path.{◌≡◌, refl, sym, ap, ap₂, ◌∙◌}
use mathlib.Core.Bool.{Bool, true, false, cond}
use mathlib.Core.List.{List, [], ◌∷◌, ◌++◌, map, map-append}
use Prim.Native.Nat.{ℕ, suc, ◌+◌, ◌-◌, ◌≤◌, ◌<◌}
use native.Mathlib.Omega.{arith}
use lib.IntN.{ℤ}
use Rattle.std.specs.Prelude.{Option}
use lib.ListN.{length, take, length-append, length-map, length-take}
use lib.Seq.{take_all}
use Rattle.strided.specs.Base.{over}
use Rattle.strided.specs.Step.{walk_after}
use Rattle.strided.specs.Bulk.{next_blocks}
use Rattle.strided.specs.declared.Plan.{Plan}
use Rattle.strided.specs.declared.Walk.{Walk}
use Rattle.strided.specs.declared.Block.{Block}
use Rattle.laws.specs.Base.Lists.{All}
use Rattle.laws.specs.Walk.Bulk.{walk_more, blocks_more, blocks_short}
use Rattle.laws.specs.Walk.Placed.{Placed, placed_of, placed_walk, placed_part}
use Rattle.laws.specs.Walk.Steps.{Ready}
use Rattle.advance.specs.Axis.{widths, starts_to}
use Rattle.advance.specs.Carry.{state_of}
use Rattle.advance.specs.Sized.{Sized}
use Rattle.walk.specs.Lent.{Taken}
use Rattle.walk.proofs.Stepping.{begun_taken, taken_after, ended_none, tiled_here}
use Rattle.walker.specs.declared.way.Way.{Way}
use Rattle.walker.specs.Stretch.{laid, stretch_at, stretches, blocks_in}
use Rattle.walker.specs.Way.{Leads}
use Rattle.walker.proofs.Stretching.{At, Lies, some_here, lies_at}
use Rattle.strided.specs.Begin.{started}

-- a plan, and the way of its walks as `way_of` tells it
module _ (p : Plan) (y : Option Way) (l : Leads y p (widths p)) where
  abbrev placed : List Block → List Placed
  placed = map (placed_of p.operands)

  module _ (w : Walk) (k : Taken p w) (h : w.ended ≡ false) (limit : ℕ) where
    abbrev t : List ℕ
    t = starts_to (widths p) w.counters p.rank

    a : At p y (widths p) t w
    a = record { widths-are = refl; leads = l; tiles = tiled_here p w k (widths p) refl (state_of t w.counters w.offsets) refl; taken = k; runs = h }

    abbrev n : ℕ
    n = (stretch_at y limit p w).count

    lies : Lies a n
    lies = lies_at a n (omega arith)

    -- ONE STRETCH, laid out, is its blocks
    pub stretch_blocks : laid (stretch_at y limit p w) ≡ placed (next_blocks n p w)
    stretch_blocks = sym (lies.blocks limit)

    pub stretch_full : length (next_blocks n p w) ≡ n
    stretch_full = lies.full

    -- which has one at least
    pub stretch_some : 1 ≤ limit → 1 ≤ n
    stretch_some g = let s = some_here a in omega (arith, s, g)

  -- STRETCHES, laid out and joined, are as many blocks
  pub stretches_blocks : (ns : List ℕ) (w : Walk) → Taken p w
      → (over (stretches ns y p w) laid ≡ placed (next_blocks (blocks_in (stretches ns y p w)) p w)) × (length (next_blocks (blocks_in (stretches ns y p w)) p w) ≡ blocks_in (stretches ns y p w))
  stretches_blocks [] w k = (refl, refl)
  stretches_blocks (m ∷ ns) w k = go w.ended refl (λ (n : ℕ). stretches_blocks ns (walk_after p n w) (taken_after p w k n))
    where
      go : (b : Bool) → w.ended ≡ b
          → ((n : ℕ) → (over (stretches ns y p (walk_after p n w)) laid ≡ placed (next_blocks (blocks_in (stretches ns y p (walk_after p n w))) p (walk_after p n w)))
          × (length (next_blocks (blocks_in (stretches ns y p (walk_after p n w))) p (walk_after p n w)) ≡ blocks_in (stretches ns y p (walk_after p n w))))
          → (over (cond b [] (stretch_at y m p w ∷ stretches ns y p (walk_after p (stretch_at y m p w).count w))) laid
          ≡ placed (next_blocks (blocks_in (cond b [] (stretch_at y m p w ∷ stretches ns y p (walk_after p (stretch_at y m p w).count w)))) p w))
          × (length (next_blocks (blocks_in (cond b [] (stretch_at y m p w ∷ stretches ns y p (walk_after p (stretch_at y m p w).count w)))) p w)
          ≡ blocks_in (cond b [] (stretch_at y m p w ∷ stretches ns y p (walk_after p (stretch_at y m p w).count w))))
      go true e ih = (refl, refl)
      go false e ih =
          let a : ℕ = (stretch_at y m p w).count in
          let b : ℕ = blocks_in (stretches ns y p (walk_after p a w)) in
          let f = stretch_full w k e m in
          let x : next_blocks (a + b) p w ≡ next_blocks a p w ++ next_blocks b p (walk_after p a w) = blocks_more p a b w f in
          let i = ih a in (
            ap₂ (λ (u v : List Placed). u ++ v) (stretch_blocks w k e m) i.0
                ∙ sym (ap placed x ∙ map-append (placed_of p.operands) (next_blocks a p w) (next_blocks b p (walk_after p a w))),
            ap length x ∙ length-append (next_blocks a p w) (next_blocks b p (walk_after p a w)) ∙ ap₂ (λ (u v : ℕ). u + v) f i.1,
          )

  -- TO THE END: calls that may each hand out a block, one more of them than blocks are left, hand out all; and then the walk has ended
  pub stretches-all : (ns : List ℕ) (w : Walk) → Taken p w → All (λ (n : ℕ). 1 ≤ n) ns → length (next_blocks (length ns) p w) < length ns
      → (over (stretches ns y p w) laid ≡ placed (next_blocks (length ns) p w)) × ((walk_after p (blocks_in (stretches ns y p w)) w).ended ≡ true)
  stretches-all [] w k ones short = absurd (let z : ⊥ = omega (arith, short) in z)
  stretches-all (m ∷ ns) w k ones short = go w.ended refl (λ (n : ℕ). stretches-all ns (walk_after p n w) (taken_after p w k n) ones.1)
    where
      go : (b : Bool) → w.ended ≡ b
          → ((n : ℕ) → length (next_blocks (length ns) p (walk_after p n w)) < length ns
          → (over (stretches ns y p (walk_after p n w)) laid ≡ placed (next_blocks (length ns) p (walk_after p n w)))
          × ((walk_after p (blocks_in (stretches ns y p (walk_after p n w))) (walk_after p n w)).ended ≡ true))
          → (over (cond b [] (stretch_at y m p w ∷ stretches ns y p (walk_after p (stretch_at y m p w).count w))) laid ≡ placed (next_blocks (suc (length ns)) p w))
          × ((walk_after p (blocks_in (cond b [] (stretch_at y m p w ∷ stretches ns y p (walk_after p (stretch_at y m p w).count w)))) w).ended ≡ true)
      go true e ih = (sym (ap placed (ended_none p w k e (suc (length ns)))), e)
      go false e ih =
          let a : ℕ = (stretch_at y m p w).count in
          let b : ℕ = length ns in
          let f = stretch_full w k e m in
          let g = stretch_some w k e m ones.0 in
          let x : next_blocks (a + b) p w ≡ next_blocks a p w ++ next_blocks b p (walk_after p a w) = blocks_more p a b w f in
          let s : suc b + (a - 1) ≡ a + b = omega (arith, g) in
          let z : next_blocks (suc b) p w ≡ next_blocks (a + b) p w = sym (blocks_short p (suc b) (a - 1) w short) ∙ ap (λ (n : ℕ). next_blocks n p w) s in
          let len : length (next_blocks (suc b) p w) ≡ a + length (next_blocks b p (walk_after p a w)) =
          ap length (z ∙ x) ∙ length-append (next_blocks a p w) (next_blocks b p (walk_after p a w)) ∙ ap (λ (n : ℕ). n + length (next_blocks b p (walk_after p a w))) f in
          let i = ih a (omega (arith, short, len, g)) in (
            ap₂ (λ (u v : List Placed). u ++ v) (stretch_blocks w k e m) i.0
                ∙ sym (ap placed (z ∙ x) ∙ map-append (placed_of p.operands) (next_blocks a p w) (next_blocks b p (walk_after p a w))),
            ap (λ (v : Walk). v.ended) (walk_more p a (blocks_in (stretches ns y p (walk_after p a w))) w) ∙ i.1,
          )

  -- FROM A BEGINNING at the starts zs: the plan's blocks, in document 01's order
  pub stretches_plan : (zs : List ℤ) → Ready p zs → Sized p → (ns : List ℕ) → All (λ (n : ℕ). 1 ≤ n) ns → length (placed_walk p zs) < length ns
      → (over (stretches ns y p (started p zs)) laid ≡ placed_walk p zs) × ((walk_after p (blocks_in (stretches ns y p (started p zs))) (started p zs)).ended ≡ true)
  stretches_plan zs r z ns ones many =
      let w : Walk = (started p zs) in
      let e : placed (next_blocks (length ns) p w) ≡ take (length ns) (placed_walk p zs) = placed_part p zs r (length ns) 0 in
      let m = length-map (next_blocks (length ns) p w) (placed_of p.operands) in
      let t = length-take (length ns) (placed_walk p zs) in
      let short : length (next_blocks (length ns) p w) < length ns = omega (arith, ap length e, m, t, many) in
      let long : length (placed_walk p zs) ≤ length ns = omega (arith, many) in
      let all = stretches-all ns w (begun_taken p zs r z) ones short in
      (all.0 ∙ e ∙ take_all (length ns) (placed_walk p zs) long, all.1)
